-- What contracts see of a beginning, and of what it stands for.
use Rattle.pit_opening.specs.Beginnings.{Begun, nothing, scheduled, carried_on, unbegun}
use Rattle.pit_opening.specs.Openings.{Opened, started, resumed}
use Rattle.pit_opening.specs.declared.beginning.BeginningText.{BeginningText}
use Rattle.pit_opening.specs.declared.beginning.BeginningText.TheVariants as text
use Rattle.pit_opening.specs.declared.opening.OpeningKind.{OpeningKind}
use Rattle.pit_opening.specs.declared.opening.OpeningKind.TheVariants as kind

abbrev pub begun_by : {A : Type 0} → BeginningText A → Begun
begun_by text.Nothing = nothing
begun_by (text.Schedule bytes) = scheduled bytes.items
begun_by (text.History bytes) = carried_on bytes.items
begun_by text.NoHistory = unbegun

abbrev pub opened_by : {A : Type 0} → OpeningKind A → Opened
opened_by (kind.Start schedule) = started schedule.items
opened_by (kind.Resumed file entries) = resumed file entries.items
