pub mod DescribeAcls
pub mod CreateAcls
pub mod DeleteAcls
pub mod Groups
