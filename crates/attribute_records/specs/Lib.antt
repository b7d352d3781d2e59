pub mod AttributeRecords
