mod EitherLaws
