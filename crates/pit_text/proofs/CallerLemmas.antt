-- For the crates above: that a text has one result, that no fault is out of memory, how far a text was read, what lines add to what is read, and that a
-- number has no byte above 127.
pub use Rattle.pit_text.proofs.OneResult.{one_result, one_whole_result, named-result}
pub use Rattle.pit_text.proofs.Standing.{schedule_of-same}
pub use Rattle.pit_text.proofs.Wanting.{no_fault_wants, stop_alone}
pub use Rattle.pit_text.proofs.Reading.{read_more, read_all, read_stops}
pub use Rattle.pit_text.proofs.Cuts.{has_parts}
pub use Rattle.pit_text.proofs.FirstLine.{skipped_line}
pub use Rattle.pit_text.proofs.Plain.{two_cut}
pub use Rattle.pit_text.proofs.Solutions.{period-range}
pub use Rattle.pit_text.proofs.Ascii.{each, whole_ascii, micro_ascii, sign_ascii}
