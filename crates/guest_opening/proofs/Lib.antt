pub mod ImageLoads
pub mod ImageParts
pub mod LoadWalk
pub mod PageWalk
pub mod StackPlaces
pub mod StackStores
