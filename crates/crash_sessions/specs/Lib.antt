pub mod WatchedView
