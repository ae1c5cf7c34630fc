pub mod HeldLaws
pub mod PackingLaws
