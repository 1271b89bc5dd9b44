use Rattle.hex.specs.Hex.{encode_with}
use Rattle.jm_script.proofs.MessageLemmas.{reject_digits}
use Rattle.jm_script.proofs.messages.reject_pieces.Goals as goal

pub returns : goal.returns
unfolding encode_with
returns c = rw (reject_digits c.args.token c.args.ssrc c.args.name.now) c.invitation_pieces.ensures
