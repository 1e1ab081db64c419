pub mod LastRow
