pub mod Exchanges
pub mod Restarts
pub mod RestartPremises
pub mod SafeAcross
pub mod RestartRuns
