-- What is proved of the model. Each file is one matter; a statement's proof has its name, in proofs/.
pub mod OneAnswer
pub mod ReadBack
pub mod Outlines
pub mod Twice
pub mod Premises
pub mod Own
pub mod TablesTwice
pub mod Refusals
pub mod GivesBack
pub mod Closure
pub mod Count
