-- Who sees an item: the `DeveloperMetadataVisibility` of the Google Sheets API v4. A project is the
-- text of its name.
use Rattle.std.specs.Prelude.{ℕ, Bool, true, false, List}
use Rattle.std.specs.Str.{bytes_eq}
use Rattle.dev_metadata.specs.declared.types.Visibility.{Visibility}
use Rattle.dev_metadata.specs.declared.types.Visibility.TheVariants.{Document, Project}

-- every project sees what is of the document, and else the one project alone
abbrev pub is_seen_under : List ℕ → Visibility → Bool
is_seen_under project Document = true
is_seen_under project (Project owner) = bytes_eq owner project

abbrev pub is_of_document : Visibility → Bool
is_of_document Document = true
is_of_document (Project _) = false

abbrev pub of_document : Visibility
of_document = Document

abbrev pub of_project : List ℕ → Visibility
of_project project = Project project
