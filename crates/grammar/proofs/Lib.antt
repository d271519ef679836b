pub mod FormAgrees
pub mod FormDecided
pub mod FormWorked
pub mod MachineBridge
pub mod MachineCounts
pub mod MachineFronts
pub mod MachineRuns
pub mod MachineSteps
