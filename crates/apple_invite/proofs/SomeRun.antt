-- A run that opens an invitation.
use Rattle.std.proofs.Common.{true, List, [], ◌∷◌, refl, lit<}
use Rattle.jm_edge.specs.declared.Addr.{Addr}
use Rattle.apple_msg.specs.declared.message.Message.{Message}
use Rattle.apple_msg.specs.declared.message.Message.TheVariants.{Invite, Accept}
use Rattle.apple_session.specs.declared.answer.PortKind.{PortKind}
use Rattle.apple_session.specs.declared.answer.PortKind.TheVariants.{Ctl, Rtp}
use Rattle.apple_session.specs.Host.{Host}
use Rattle.apple_session.specs.Machine as machine
use Rattle.apple_invite.specs.Caller.{address_of}
use Rattle.apple_invite.specs.Machine.{ticks, hears, step}
use Rattle.apple_invite.specs.World.{Event, dials, reaches}
use Rattle.apple_invite.specs.Laws.{OpensSomewhere}

-- the inviter's two addresses, the host's control address, and a stranger's
home : PortKind → Addr
home Ctl = record { host = 1; port = 6004 }
home Rtp = record { host = 1; port = 6005 }

callee : Addr
callee = record { host = 2; port = 5004 }

stranger : Addr
stranger = record { host = 3; port = 7004 }

somebody : Host
somebody = record { ssrc = 17; name = []; peers = [] }

invitation : Message
invitation = Invite 1 34 []

ok : Message
ok = Accept 1 17 []

-- The stranger's invitation has the inviter's SSRC. The first OK is heard before its second invitation is answered, and
-- the control port's OK comes again at last.
story : List Event
story =
    reaches true Ctl stranger (Invite 5 34 []) 0
    ∷ dials (ticks 0)
    ∷ reaches true Ctl (home Ctl) invitation 10
    ∷ dials (ticks 10000)
    ∷ dials (hears Ctl callee ok 10010)
    ∷ reaches true Ctl (home Ctl) invitation 10020
    ∷ reaches true Rtp (home Rtp) invitation 10030
    ∷ dials (hears Rtp (address_of callee Rtp) ok 10040)
    ∷ dials (hears Ctl callee ok 10050)
    ∷ []

pub opens_somewhere : OpensSomewhere
unfolding home callee stranger somebody invitation ok story step machine.step
opens_somewhere = record {
  here = home;
  host = somebody;
  ssrc = 34;
  token = 1;
  name = [];
  to = callee;
  events = story;
  allowed = (
    λ ours. absurd cc,
    (
      tt,
      (
        λ ours. record { its_address = refl; sent = (0, lit< tt, refl) },
        (
          tt,
          (
            λ at. (0, lit< tt, refl),
            (
              λ ours. record { its_address = refl; sent = (0, lit< tt, refl) },
              (
                λ ours. record { its_address = refl; sent = (2, lit< tt, refl) },
                (
                  λ at. (2, lit< tt, refl),
                  (
                    λ at. (0, lit< tt, refl),
                    tt,
                  ),
                ),
              ),
            ),
          ),
        ),
      ),
    ),
  );
  opens = refl;
}
