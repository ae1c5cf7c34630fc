pub mod DigitSteps
pub mod LiteralSteps
pub mod SingleSteps
pub mod BegunSteps
pub mod HeadSteps
pub mod TakeSteps
pub mod GroupSteps
pub mod WholeSteps
