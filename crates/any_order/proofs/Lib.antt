-- The station over any rules, and that its sets are safe in any order: a means of proof for the demands, which speak of the real calls.
-- `Rules`, `Machine`, `Orders`, `GoodOrder` and `Jams` define it, `Statements` says what is proved; the rest leads up to that.
pub mod Rules
pub mod Machine
pub mod Orders
pub mod GoodOrder
pub mod Jams
pub mod Statements
pub mod Marks
pub mod Facts
pub mod Invariant
pub mod SetApart
pub mod AnyOrder
pub mod Exists
pub mod KeptGood
pub mod Stuck
