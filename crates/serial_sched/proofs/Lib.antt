pub mod OneStep
pub mod Reached
pub mod Ecalls
pub mod RecordedAnswers
pub mod SliceLaws
pub mod FollowLaws
pub mod Chosen
