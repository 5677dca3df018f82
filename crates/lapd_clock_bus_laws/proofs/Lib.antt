pub mod Along
pub mod SafeOnBus
pub mod BusComputed
pub mod AcrossRestarts
pub mod AcrossComputed
