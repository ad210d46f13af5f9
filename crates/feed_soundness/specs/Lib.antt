pub mod AcceptedTables
