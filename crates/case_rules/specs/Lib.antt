-- A shop as tables: keys, catalogs, actions, rows and the parameters of transactions, each with its laws behind it; then the shop as the
-- protocol sees it, its entries and the targets of its commands.
pub mod Keys
pub mod KeyLaws
pub mod Catalogs
pub mod TableLaws
pub mod Actions
pub mod Rows
pub mod Parameters
pub mod ParameterLaws
pub mod Shop
pub mod Laws
pub mod PageLaws
pub mod Entries
pub mod EntryLaws
pub mod Targets
pub mod TargetLaws
