-- For the crates above: that no fault of a script is out of memory, and that a text that has no line stands for no job.
pub use Rattle.pit_script.proofs.Progressing.{no_line_stands}
pub use Rattle.pit_script.proofs.Wanting.{no_script_fault_wants}
