-- Laws of reading a model file.
pub mod ZeroBytes
pub mod JudgePass
pub mod LeadingNodes
pub mod WordStores
pub mod FillPass
pub mod Answering
