-- Files are what is read.
use Rattle.std.proofs.Common.{sym, ◌∙◌}
use Rattle.std.proofs.lemmas.Result.{IfOk-at_ok, IfErr-at_err}
use Rattle.jm_smf.specs.Grammar.{IsFile}
use Rattle.jm_smf.specs.Faults.{FileShows}
use Rattle.jm_smf.specs.Laws.{FilesAreRead, OneList, FaultsAreShown}
use Rattle.jm_smf.proofs.Told.{same_value}
use Rattle.jm_smf.proofs.SpelledFiles.{file_is_read}
use Rattle.jm_smf.proofs.ReadFiles.{read_is_spelled}
use Rattle.jm_smf.proofs.ShownFiles.{file_refused, file_told}

pub files_are_read : FilesAreRead
files_are_read octets list = (λ e. IfOk-at_ok (IsFile octets) e (read_is_spelled octets), λ f. file_is_read octets list f)

pub one_list : OneList
one_list octets a b f g = same_value a b (sym (file_is_read octets a f) ∙ file_is_read octets b g)

pub faults_are_shown : FaultsAreShown
faults_are_shown octets fault = (λ e. IfErr-at_err (FileShows octets) e (file_refused octets), λ s. file_told octets fault s)
