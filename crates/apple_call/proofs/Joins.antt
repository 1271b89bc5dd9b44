-- What was done first and what was done then is what was done.
use Rattle.std.proofs.Common.{◌≡◌, ℕ, ◌+◌, ◌≤◌, List, [], ◌∷◌, ◌++◌, Option, refl, sym, ap, subst, ◌∙◌, append_assoc, length-append, arith}
use Rattle.std.proofs.lemmas.List.{append-nil}
use Rattle.std.proofs.lemmas.List.Sums.{fold-append}
use Rattle.jm_edge.specs.declared.Addr.{Addr}
use Rattle.jm_edge.specs.Faults.{Rose}
use Rattle.jm_edge.specs.Ticks.{Ticks}
use Rattle.jm_edge.specs.Wire.{Letter, Wire}
use Rattle.apple_session.specs.declared.answer.PortKind.{PortKind}
use Rattle.apple_session.specs.declared.answer.PortKind.TheVariants.{Ctl, Rtp}
use Rattle.apple_invite.specs.Caller.{Caller}
use Rattle.apple_invite.specs.Machine.{Call, ticks, closes, on_close, step}
use Rattle.apple_invite.specs.declared.stage.Stage.{Stage}
use Rattle.apple_invite.specs.declared.stage.Stage.TheVariants.{Fresh, AskCtl, AskRtp, Open, Closed}
use Rattle.apple_invite.specs.Calls.{after_call, after}
use Rattle.jm_edge.specs.Exchange.{letters_in, Exchanges}
use Rattle.jm_edge.specs.ExchangeLaws.{letters_in-append, exchanges-then, exchanges_nothing}
use Rattle.jm_edge.specs.MomentLaws.{gave-then, gave_one, gave_nothing}
use Rattle.apple_call.specs.Exchange.{Breaks}
use Rattle.apple_invite.specs.declared.dialed.Dialed.{Dialed}
use Rattle.apple_call.specs.Turns.{letters_on, letters_of, clocks_by, clocks_of, message_of, hearing, Turn, first_calls, turn_calls, calls_of, moments_of, control_givens, data_givens, Posts, Goes, Does, Scene, Plays, MadeAll, ControlBroke, DataBroke}

-- ---- lists

letters_of-append : (port : PortKind) (to : Addr) (caller : Caller) (xs ys : List Call) → letters_of port to caller (xs ++ ys) ≡ letters_of port to caller xs ++ letters_of port to (after caller xs) ys
letters_of-append port to caller [] ys = refl
letters_of-append port to caller (x ∷ xs) ys =
    let one : List Letter = letters_on port to (step caller x).dialed.send in
    ap (λ (k : List Letter). one ++ k) (letters_of-append port to (after_call caller x) xs ys)
    ∙ sym (append_assoc one (letters_of port to (after_call caller x) xs) (letters_of port to (after (after_call caller x) xs) ys))

clocks_of-append : (caller : Caller) (xs ys : List Call) → clocks_of caller (xs ++ ys) ≡ clocks_of caller xs + clocks_of (after caller xs) ys
clocks_of-append caller [] ys = omega arith
clocks_of-append caller (x ∷ xs) ys = omega (arith, clocks_of-append (after_call caller x) xs ys)

-- ---- through both

goes-then : {port : PortKind} {to : Addr} {cs ds : List Call} {xs ys : List (Option Letter)} {caller : Caller} {old middle new : Wire}
    → Goes port to cs xs caller old middle → Goes port to ds ys (after caller cs) middle new → Goes port to (cs ++ ds) (xs ++ ys) caller old new
goes-then {port} {to} {cs} {ds} {xs} {ys} {caller} first second = record {
  sendings = first.sendings ++ second.sendings;
  given = letters_in-append first.sendings second.sendings ∙ ap (λ (k : List Letter). k ++ letters_in second.sendings) first.given ∙ ap (λ (k : List Letter). letters_of port to caller cs ++ k) second.given ∙ sym (letters_of-append port to caller cs ds);
  exchanges = exchanges-then first.exchanges second.exchanges;
}

pub does-then : {cs ds : List Call} {xs ys us vs : List (Option Letter)} {m n : ℕ} {to : Addr} {caller next last : Caller} {a b c d e f : Wire}
    → Does cs xs us m to caller next a b d e → Does ds ys vs n to next last b c e f → Does (cs ++ ds) (xs ++ ys) (us ++ vs) (m + n) to caller last a c d f
does-then {cs} {ds} {xs} {ys} {us} {vs} {m} {n} {to} {caller} {next} {last} {a} {b} {c} {d} {e} {f} first second =
    let then_control : Goes Ctl to ds ys (after caller cs) b c = subst (λ (k : Caller). Goes Ctl to ds ys k b c) first.caller_is second.on_control in
    let then_data : Goes Rtp to ds vs (after caller cs) e f = subst (λ (k : Caller). Goes Rtp to ds vs k e f) first.caller_is second.on_data in
    let same : n ≡ clocks_of (after caller cs) ds = second.clocks_are ∙ ap (λ (k : Caller). clocks_of k ds) first.caller_is in
    record {
      caller_is = second.caller_is ∙ ap (λ (k : Caller). after k ds) first.caller_is ∙ sym (fold-append after_call caller cs ds);
      clocks_are = omega (arith, first.clocks_are, same, clocks_of-append caller cs ds);
      on_control = goes-then first.on_control then_control;
      on_data = goes-then first.on_data then_data;
    }

-- ---- one call

goes_one : (port : PortKind) (to : Addr) (call : Call) (caller : Caller) (old new : Wire) → Posts port to (step caller call).dialed.send old new → Goes port to (call ∷ []) [] caller old new
goes_one port to call caller old new p = record {
  sendings = p.sendings;
  given = p.given ∙ sym (append-nil (letters_on port to (step caller call).dialed.send));
  exchanges = p.exchanges;
}

pub does_one : (call : Call) (to : Addr) (caller caller' : Caller) (dialed : Dialed) (clocks : ℕ) (a b c d : Wire)
    → dialed ≡ (step caller call).dialed → caller' ≡ (step caller call).caller → clocks ≡ clocks_by dialed.act → Posts Ctl to dialed.send a b → Posts Rtp to dialed.send c d
    → Does (call ∷ []) [] [] clocks to caller caller' a b c d
does_one call to caller caller' dialed clocks a b c d same is count control rtp = record {
  caller_is = is;
  clocks_are = omega (arith, count, ap (λ (x : Dialed). clocks_by x.act) same);
  on_control = goes_one Ctl to call caller a b (subst (λ (x : Dialed). Posts Ctl to x.send a b) same control);
  on_data = goes_one Rtp to call caller c d (subst (λ (x : Dialed). Posts Rtp to x.send c d) same rtp);
}

close_unclocked : (caller : Caller) (stage : Stage) → clocks_by (on_close caller stage).dialed.act ≡ 0
close_unclocked caller Fresh = refl
close_unclocked caller (AskCtl tries due) = refl
close_unclocked caller (AskRtp host tries due) = refl
close_unclocked caller (Open host due asked) = refl
close_unclocked caller (Closed why) = refl

closes_unclocked : (caller : Caller) → clocks_by (step caller closes).dialed.act ≡ 0
unfolding step
closes_unclocked caller = close_unclocked caller caller.stage

pub does_close : (to : Addr) (caller caller' : Caller) (dialed : Dialed) (a b c d : Wire)
    → dialed ≡ (step caller closes).dialed → caller' ≡ (step caller closes).caller → Posts Ctl to dialed.send a b → Posts Rtp to dialed.send c d
    → Does (closes ∷ []) [] [] 0 to caller caller' a b c d
does_close to caller caller' dialed a b c d same is control rtp =
    does_one closes to caller caller' dialed 0 a b c d same is (sym (ap (λ (x : Dialed). clocks_by x.act) same ∙ closes_unclocked caller)) control rtp

goes_nothing : (port : PortKind) (to : Addr) (caller : Caller) (wire : Wire) → Goes port to [] [] caller wire wire
goes_nothing port to caller wire = record { sendings = []; given = refl; exchanges = exchanges_nothing wire }

goes_given : (port : PortKind) (to : Addr) (caller : Caller) (givens : List (Option Letter)) (old new : Wire) → Exchanges givens [] old new → Goes port to [] givens caller old new
goes_given port to caller givens old new e = record { sendings = []; given = refl; exchanges = e }

pub does_nothing : (to : Addr) (caller : Caller) (a c : Wire) → Does [] [] [] 0 to caller caller a a c c
does_nothing to caller a c = record { caller_is = refl; clocks_are = refl; on_control = goes_nothing Ctl to caller a; on_data = goes_nothing Rtp to caller c }

pub does_control : (to : Addr) (caller : Caller) (givens : List (Option Letter)) (a b c : Wire) → Exchanges givens [] a b → Does [] givens [] 0 to caller caller a b c c
does_control to caller givens a b c e = record { caller_is = refl; clocks_are = refl; on_control = goes_given Ctl to caller givens a b e; on_data = goes_nothing Rtp to caller c }

pub does_data : (to : Addr) (caller : Caller) (givens : List (Option Letter)) (a c d : Wire) → Exchanges givens [] c d → Does [] [] givens 0 to caller caller a a c d
does_data to caller givens a c d e = record { caller_is = refl; clocks_are = refl; on_control = goes_nothing Ctl to caller a; on_data = goes_given Rtp to caller givens c d e }

-- ---- turns

calls_of-append : (xs ys : List Turn) → calls_of (xs ++ ys) ≡ calls_of xs ++ calls_of ys
calls_of-append [] ys = refl
calls_of-append (x ∷ xs) ys = ap (λ (k : List Call). turn_calls x ++ k) (calls_of-append xs ys) ∙ sym (append_assoc (turn_calls x) (calls_of xs) (calls_of ys))

moments_of-append : (xs ys : List Turn) → moments_of (xs ++ ys) ≡ moments_of xs ++ moments_of ys
moments_of-append [] ys = refl
moments_of-append (x ∷ xs) ys = ap (λ (k : List ℕ). x.now ∷ k) (moments_of-append xs ys)

control_givens-append : (xs ys : List Turn) → control_givens (xs ++ ys) ≡ control_givens xs ++ control_givens ys
control_givens-append [] ys = refl
control_givens-append (x ∷ xs) ys = ap (λ (k : List (Option Letter)). x.control ∷ k) (control_givens-append xs ys)

data_givens-append : (xs ys : List Turn) → data_givens (xs ++ ys) ≡ data_givens xs ++ data_givens ys
data_givens-append [] ys = refl
data_givens-append (x ∷ xs) ys = ap (λ (k : List (Option Letter)). x.rtp ∷ k) (data_givens-append xs ys)

plays-then : (cs ds : List Call) (xs ys us vs : List (Option Letter)) (ms ns : List ℕ) (m n : ℕ) (to : Addr) (a b c : Scene)
    → Plays cs xs us ms m to a b → Plays ds ys vs ns n to b c → Plays (cs ++ ds) (xs ++ ys) (us ++ vs) (ms ++ ns) (m + n) to a c
plays-then cs ds xs ys us vs ms ns m n to a b c first second = (does-then first.0 second.0, gave-then first.1 second.1)

-- Other lists that are equal.
plays_as : (cs ds : List Call) (xs ys us vs : List (Option Letter)) (ms ns : List ℕ) (n : ℕ) (to : Addr) (a b : Scene)
    → cs ≡ ds → xs ≡ ys → us ≡ vs → ms ≡ ns → Plays cs xs us ms n to a b → Plays ds ys vs ns n to a b
plays_as cs ds xs ys us vs ms ns n to a b calls control rtp moments plays =
    subst (λ (k : List Call). Plays k ys vs ns n to a b) calls
    (subst (λ (k : List (Option Letter)). Plays cs k vs ns n to a b) control
    (subst (λ (k : List (Option Letter)). Plays cs xs k ns n to a b) rtp
    (subst (λ (k : List ℕ). Plays cs xs us k n to a b) moments plays)))

rose_on : (a b c : ℕ) → a ≤ b → Rose b c → b ≤ c → Rose a c
rose_on a b c first rose second = λ below. grind (arith, first, second, rose, below)

pub none_made : (to : Addr) (a : Scene) → MadeAll 0 0 to a a
none_made to a = record { made = []; count = refl; plays = (does_nothing to a.caller a.control a.rtp, gave_nothing a.coming) }

-- turns that were all made, and then others
pub made-then : (turns more m n : ℕ) (to : Addr) (a b c : Scene) → MadeAll turns m to a b → MadeAll more n to b c → MadeAll (turns + more) (m + n) to a c
made-then turns more m n to a b c first second = record {
  made = first.made ++ second.made;
  count = omega (arith, length-append first.made second.made, first.count, second.count);
  plays = plays_as (calls_of first.made ++ calls_of second.made) (calls_of (first.made ++ second.made)) (control_givens first.made ++ control_givens second.made) (control_givens (first.made ++ second.made))
      (data_givens first.made ++ data_givens second.made) (data_givens (first.made ++ second.made)) (moments_of first.made ++ moments_of second.made) (moments_of (first.made ++ second.made)) (m + n) to a c
      (sym (calls_of-append first.made second.made)) (sym (control_givens-append first.made second.made)) (sym (data_givens-append first.made second.made)) (sym (moments_of-append first.made second.made))
      (plays-then (calls_of first.made) (calls_of second.made) (control_givens first.made) (control_givens second.made) (data_givens first.made) (data_givens second.made) (moments_of first.made) (moments_of second.made) m n to a b c first.plays second.plays);
}

-- turns that were all made, and then others of which one broke off; no more are meant than `turns`
pub control_broke-then : (made_turns more turns m n : ℕ) (to : Addr) (a b c : Scene) → made_turns + more ≤ turns → MadeAll made_turns m to a b → ControlBroke more n to b c → ControlBroke turns (m + n) to a c
control_broke-then made_turns more turns m n to a b c fits first second =
    let last : List Call = ticks second.now ∷ [] in
    record {
      made = first.made ++ second.made;
      few = omega (arith, length-append first.made second.made, first.count, second.few, fits);
      now = second.now;
      plays = plays_as (calls_of first.made ++ (calls_of second.made ++ last)) (calls_of (first.made ++ second.made) ++ last) (control_givens first.made ++ control_givens second.made) (control_givens (first.made ++ second.made))
          (data_givens first.made ++ data_givens second.made) (data_givens (first.made ++ second.made)) (moments_of first.made ++ (moments_of second.made ++ (second.now ∷ []))) (moments_of (first.made ++ second.made) ++ (second.now ∷ [])) (m + n) to a c
          (sym (ap (λ (k : List Call). k ++ last) (calls_of-append first.made second.made) ∙ append_assoc (calls_of first.made) (calls_of second.made) last))
          (sym (control_givens-append first.made second.made)) (sym (data_givens-append first.made second.made))
          (sym (ap (λ (k : List ℕ). k ++ (second.now ∷ [])) (moments_of-append first.made second.made) ∙ append_assoc (moments_of first.made) (moments_of second.made) (second.now ∷ [])))
          (plays-then (calls_of first.made) (calls_of second.made ++ last) (control_givens first.made) (control_givens second.made) (data_givens first.made) (data_givens second.made) (moments_of first.made) (moments_of second.made ++ (second.now ∷ [])) m n to a b c first.plays second.plays);
      rose = rose_on a.control.recv_faults b.control.recv_faults c.control.recv_faults first.plays.0.on_control.exchanges.counted second.rose second.plays.0.on_control.exchanges.counted;
    }

pub data_broke-then : (made_turns more turns m n : ℕ) (to : Addr) (a b c : Scene) → made_turns + more ≤ turns → MadeAll made_turns m to a b → DataBroke more n to b c → DataBroke turns (m + n) to a c
data_broke-then made_turns more turns m n to a b c fits first second =
    let last : List Call = first_calls second.now second.control in
    let given : List (Option Letter) = second.control ∷ [] in
    record {
      made = first.made ++ second.made;
      few = omega (arith, length-append first.made second.made, first.count, second.few, fits);
      now = second.now;
      control = second.control;
      plays = plays_as (calls_of first.made ++ (calls_of second.made ++ last)) (calls_of (first.made ++ second.made) ++ last) (control_givens first.made ++ (control_givens second.made ++ given)) (control_givens (first.made ++ second.made) ++ given)
          (data_givens first.made ++ data_givens second.made) (data_givens (first.made ++ second.made)) (moments_of first.made ++ (moments_of second.made ++ (second.now ∷ []))) (moments_of (first.made ++ second.made) ++ (second.now ∷ [])) (m + n) to a c
          (sym (ap (λ (k : List Call). k ++ last) (calls_of-append first.made second.made) ∙ append_assoc (calls_of first.made) (calls_of second.made) last))
          (sym (ap (λ (k : List (Option Letter)). k ++ given) (control_givens-append first.made second.made) ∙ append_assoc (control_givens first.made) (control_givens second.made) given))
          (sym (data_givens-append first.made second.made))
          (sym (ap (λ (k : List ℕ). k ++ (second.now ∷ [])) (moments_of-append first.made second.made) ∙ append_assoc (moments_of first.made) (moments_of second.made) (second.now ∷ [])))
          (plays-then (calls_of first.made) (calls_of second.made ++ last) (control_givens first.made) (control_givens second.made ++ given) (data_givens first.made) (data_givens second.made) (moments_of first.made) (moments_of second.made ++ (second.now ∷ [])) m n to a b c first.plays second.plays);
      rose = rose_on a.rtp.recv_faults b.rtp.recv_faults c.rtp.recv_faults first.plays.0.on_data.exchanges.counted second.rose second.plays.0.on_data.exchanges.counted;
    }

-- ---- one turn, from its parts

-- the same calls and count
does_as : (cs ds : List Call) (xs us : List (Option Letter)) (m n : ℕ) (to : Addr) (caller last : Caller) (a b c d : Wire) → cs ≡ ds → m ≡ n → Does cs xs us m to caller last a b c d → Does ds xs us n to caller last a b c d
does_as cs ds xs us m n to caller last a b c d calls count does =
    subst (λ (k : List Call). Does k xs us n to caller last a b c d) calls (subst (λ (k : ℕ). Does cs xs us k to caller last a b c d) count does)

-- both ports were received from
pub turn_made : (now : ℕ) (control rtp : Option Letter) (m n k : ℕ) (to : Addr) (c0 c1 c2 c3 : Caller) (a0 a1 a2 a3 a4 d0 d1 d2 d3 d4 : Wire) (old new : Option (ℕ → ℕ))
    → Ticks now old new
    → Does (ticks now ∷ []) [] [] m to c0 c1 a0 a1 d0 d1
    → Exchanges (control ∷ []) [] a1 a2
    → Does (hearing Ctl (message_of control) now) [] [] n to c1 c2 a2 a3 d1 d2
    → Exchanges (rtp ∷ []) [] d2 d3
    → Does (hearing Rtp (message_of rtp) now) [] [] k to c2 c3 a3 a4 d3 d4
    → MadeAll 1 (m + n + k) to (record { caller = c0; control = a0; rtp = d0; coming = old }) (record { caller = c3; control = a4; rtp = d4; coming = new })
turn_made now control rtp m n k to c0 c1 c2 c3 a0 a1 a2 a3 a4 d0 d1 d2 d3 d4 old new t first took second heard third =
    let begun : List Call = first_calls now control in
    let last : List Call = hearing Rtp (message_of rtp) now in
    let one : Does begun (control ∷ []) [] (m + 0 + n) to c0 c2 a0 a3 d0 d2 = does-then (does-then first (does_control to c1 (control ∷ []) a1 a2 d1 took)) second in
    let all : Does ((begun ++ []) ++ last) (control ∷ []) (rtp ∷ []) (m + 0 + n + 0 + k) to c0 c3 a0 a4 d0 d4 = does-then (does-then one (does_data to c2 (rtp ∷ []) a3 d2 d3 heard)) third in
    record {
      made = record { now = now; control = control; rtp = rtp } ∷ [];
      count = refl;
      plays = (
        does_as ((begun ++ []) ++ last) ((begun ++ last) ++ []) (control ∷ []) (rtp ∷ []) (m + 0 + n + 0 + k) (m + n + k) to c0 c3 a0 a4 d0 d4
            (ap (λ (k : List Call). k ++ last) (append-nil begun) ∙ sym (append-nil (begun ++ last))) (omega arith) all,
        gave_one now old new t,
      );
    }

-- the control port's receive failed
pub turn_control_broke : (now m : ℕ) (to : Addr) (c0 c1 : Caller) (a0 a1 a2 d0 d1 : Wire) (old new : Option (ℕ → ℕ))
    → Ticks now old new
    → Does (ticks now ∷ []) [] [] m to c0 c1 a0 a1 d0 d1
    → Breaks a1 a2
    → ControlBroke 1 m to (record { caller = c0; control = a0; rtp = d0; coming = old }) (record { caller = c1; control = a2; rtp = d1; coming = new })
turn_control_broke now m to c0 c1 a0 a1 a2 d0 d1 old new t first broke =
    let all : Does (ticks now ∷ []) [] [] (m + 0) to c0 c1 a0 a2 d0 d1 = does-then first (does_control to c1 [] a1 a2 d1 broke.nothing) in
    record {
      made = [];
      few = omega arith;
      now = now;
      plays = (does_as (ticks now ∷ []) (ticks now ∷ []) [] [] (m + 0) m to c0 c1 a0 a2 d0 d1 refl (omega arith) all, gave_one now old new t);
      rose = rose_on a0.recv_faults a1.recv_faults a2.recv_faults first.on_control.exchanges.counted broke.rose broke.nothing.counted;
    }

-- the data port's receive failed
pub turn_data_broke : (now : ℕ) (control : Option Letter) (m n : ℕ) (to : Addr) (c0 c1 c2 : Caller) (a0 a1 a2 a3 d0 d1 d2 d3 : Wire) (old new : Option (ℕ → ℕ))
    → Ticks now old new
    → Does (ticks now ∷ []) [] [] m to c0 c1 a0 a1 d0 d1
    → Exchanges (control ∷ []) [] a1 a2
    → Does (hearing Ctl (message_of control) now) [] [] n to c1 c2 a2 a3 d1 d2
    → Breaks d2 d3
    → DataBroke 1 (m + n) to (record { caller = c0; control = a0; rtp = d0; coming = old }) (record { caller = c2; control = a3; rtp = d3; coming = new })
turn_data_broke now control m n to c0 c1 c2 a0 a1 a2 a3 d0 d1 d2 d3 old new t first took second broke =
    let begun : List Call = first_calls now control in
    let one : Does begun (control ∷ []) [] (m + 0 + n) to c0 c2 a0 a3 d0 d2 = does-then (does-then first (does_control to c1 (control ∷ []) a1 a2 d1 took)) second in
    let all : Does (begun ++ []) (control ∷ []) [] (m + 0 + n + 0) to c0 c2 a0 a3 d0 d3 = does-then one (does_data to c2 [] a3 d2 d3 broke.nothing) in
    record {
      made = [];
      few = omega arith;
      now = now;
      control = control;
      plays = (does_as (begun ++ []) begun (control ∷ []) [] (m + 0 + n + 0) (m + n) to c0 c2 a0 a3 d0 d3 (append-nil begun) (omega arith) all, gave_one now old new t);
      rose = rose_on d0.recv_faults d2.recv_faults d3.recv_faults one.on_data.exchanges.counted broke.rose broke.nothing.counted;
    }
