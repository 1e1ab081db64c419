pub mod Store
pub mod ByKey
