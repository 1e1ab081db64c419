pub mod Listed
pub mod Goes
