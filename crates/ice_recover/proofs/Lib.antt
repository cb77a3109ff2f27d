mod OthersLaws
mod ReplayLaws
