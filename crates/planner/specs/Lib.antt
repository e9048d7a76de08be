pub mod Turns
pub mod Plans
pub mod Goods
pub mod Queues
pub mod States
pub mod Laws
