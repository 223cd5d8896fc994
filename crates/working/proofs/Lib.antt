pub mod SlipLaws
pub mod KeyLaws
pub mod GatherLaws
pub mod PassLaws
pub mod WorkLaws
pub mod Readable
