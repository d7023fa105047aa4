pub use Rattle.numa_fault.specs.Crew
pub mod Storm
