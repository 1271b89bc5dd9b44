use Rattle.jm_book.specs.RoomLaws.{is_legal_by_room}
use Rattle.jm_book.proofs.laws.members.is_legal_by_room.Goals as goal

pub returns : goal.returns
returns c = is_legal_by_room
