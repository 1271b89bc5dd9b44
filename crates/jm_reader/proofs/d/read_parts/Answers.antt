use Rattle.std.proofs.Common.{◌∙◌}
use Rattle.jm_reader.specs.ChapterLaws.{onward, at_last}
use Rattle.jm_reader.proofs.d.read_parts.Goals as goal

pub returns-clause-value : goal.returns-clause-value
returns-clause-value c =
    let tunes = rw c.behind-rest.ensures at c.in_ok-tunes.ensures.value in
    let songs = rw (c.behind-rest-2.ensures, c.behind-rest.ensures) at c.in_ok-songs.ensures.value in
    onward _ _ _ _ _ _ _ c.in_ok-resets.ensures.value ∙ (onward _ _ _ _ _ _ _ tunes ∙ at_last _ _ _ _ _ _ songs)
