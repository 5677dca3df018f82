pub mod CodeOrder
pub mod Counted
pub mod CountedCalls
pub mod HandleValues
pub mod Asked
pub mod TeiLists
pub mod WrongSetting
