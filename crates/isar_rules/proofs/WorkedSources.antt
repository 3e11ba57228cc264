-- What comes of headers, aliases and files in the examples, computed.
use Rattle.std.proofs.Common.{refl}
use Rattle.std.specs.Fmt.{digits}
use Rattle.isar_rules.specs.WorkedTheories.{Headers}
use Rattle.isar_rules.specs.WorkedAliases.{AnAlias, AMissingAlias}
use Rattle.isar_rules.specs.WorkedBlobs.{ALoad, BlobLines}
use Rattle.isar_rules.proofs.Printing.{implies_text}

pub headers : Headers
headers = record {
  imports_reported = refl;
  seen = refl;
  name_first = refl;
  import_next = refl;
  first_import = refl;
  keyword_last = refl;
  unfinished = refl;
  no_command = refl;
  open_comment = refl;
  no_theory = refl;
  bad_header = refl;
}

pub an_alias : AnAlias
an_alias = record {
  header = refl;
  inside = refl;
  claimed = rw implies_text refl;
  no_name = refl;
  in_header = refl;
}

pub a_missing_alias : AMissingAlias
a_missing_alias = record { header = refl; next = refl; end = refl }

pub a_load : ALoad
unfolding digits
a_load = record {
  loaded = refl;
  fact_added = refl;
  absent = refl;
  bad_line = refl;
  line_first = refl;
  name_next = refl;
  twice = refl;
  kept = refl;
}

pub blob_lines : BlobLines
blob_lines = record {
  none = refl;
  blank = refl;
  return_dropped = refl;
  return_alone = refl;
  last_return = refl;
  blank_first = refl;
  long_name = refl;
  command = refl;
  keyword = refl;
  bad_formula = refl;
}
