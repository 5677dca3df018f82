pub mod FirstOf
