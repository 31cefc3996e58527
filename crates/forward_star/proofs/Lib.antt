-- The lists of outgoing arcs: how they are linked, those of a table's columns, and what is made along one.
pub mod Linking
pub mod Columns
pub mod Along
