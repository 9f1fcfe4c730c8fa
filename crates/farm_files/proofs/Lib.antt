pub mod PutAll
pub mod Fits
pub mod FewAnswers
pub mod ServeEnds
pub mod OneFeedServed
pub mod AnsweredRacks
pub mod Closes
pub mod RackBatches
