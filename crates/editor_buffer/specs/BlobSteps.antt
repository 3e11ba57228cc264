-- One change of a blob, by what came before it (this project's own).
use Rattle.std.specs.Prelude.{ℕ, if◌then◌else◌, List, Result, Ok, Err}
use Rattle.message_values.specs.declared.item.BlobChange.{BlobChange}
use Rattle.message_values.specs.declared.refusal.Refusal.{Refusal}
use Rattle.message_values.specs.declared.refusal.Refusal.TheVariants.{BlobTwice, UnknownBlob}
use Rattle.buffer_rules.specs.Updates.{BlobList, is_among, removes_none, blob_once}

-- the blobs after one change, when those of these names came before it, or why it is refused
abbrev pub blob_step : BlobList → List (List ℕ) → BlobChange → BlobList → Result BlobList Refusal
blob_step before came change blobs =
    if is_among came change.name then Err BlobTwice
    else if removes_none before change then Err UnknownBlob
    else Ok (blob_once change.name change.text blobs)
