pub mod RunsApart
