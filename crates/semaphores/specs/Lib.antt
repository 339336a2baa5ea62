pub mod Queues
pub mod Semaphores
pub mod Turns
