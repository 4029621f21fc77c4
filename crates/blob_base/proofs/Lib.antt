pub mod KeyTexts
pub mod FaultLaws
pub mod KeyLists
