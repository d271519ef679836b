pub mod Files
pub mod LinesLeft
pub mod LoadRefusals
pub mod Printed
pub mod JudgementLines
pub mod Judged
pub mod Gates
