-- The rules of one record, in the terms of the code.
pub mod RecordRules
