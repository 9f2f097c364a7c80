pub mod Gadgets
pub mod Files
pub mod Class
pub mod DemoFiles
