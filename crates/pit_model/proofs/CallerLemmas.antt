-- For the crates above: what they cite of cells, of the bounds that lines of limits leave, and of what fits.
pub use Rattle.pit_model.proofs.Cells.{cells_apart, same_resource}
pub use Rattle.pit_model.proofs.Limits.{tightest-empty, tightest-line}
pub use Rattle.pit_model.proofs.Fitting.{writes_of-fits, AreKeyed-nil, Decides-pair_eq}
pub use Rattle.pit_model.proofs.Triples.{Triple, pairs-of, once-of, fit-of}
