use Rattle.std.proofs.Common.{◌≡◌, ◌∙◌, ap, ap₂, sym, true, false, refl, subst, map, List, [], ◌∷◌}
use Rattle.clap.specs.Words.{App, Text, is_simple, app_of, kind_of, matches_of}
use Rattle.clap.specs.Kinds.{Kinds, HasKind}
use Rattle.clap.specs.Faults.{fault_of, is_simple_and_free}
use Rattle.midi_host.specs.ServeOptions.{serve_app, is_taken}
use Rattle.midi_host.specs.ServeParsed.{Matches, fault_for}
use Rattle.midi_host.specs.declared.serve_options.WordsFault.{WordsFault}
use Rattle.midi_host.specs.declared.serve_options.WordsFault.TheVariants.{Memory, Refused}
use Rattle.std.specs.declared.result.Result.TheVariants.{Err}
use Rattle.midi_host.proofs.ServeParsing.{serve_is_simple, serve_is_free, map-same, given, some_fails}
use Rattle.midi_host.proofs.serve_options.matches_given.Goals as goal

pub returns-in-Ok : goal.returns-in-Ok
returns-in-Ok c =
    let app : app_of c.in_ok-command.command ≡ serve_app = c.in_ok-command.ensures in
    let parse = c.in-Ok.ensures in
    given c.args.words.now (map (λ x. x) c.args.words.now) (fault_of (app_of c.in_ok-command.command) (map (λ x. x) c.args.words.now)) _ (map-same c.args.words.now)
    (ap (λ (a : App). fault_of a (map (λ x. x) c.args.words.now)) app)
    (parse.kinds (ap is_simple_and_free app ∙ serve_is_free))
    ((parse.matches (ap is_simple app ∙ serve_is_simple)).0 ∙ ap (λ (a : App). matches_of a (map (λ x. x) c.args.words.now)) app)

pub returns-in-Err : goal.returns-in-Err
returns-in-Err c =
    let app : app_of c.in_ok-command.command ≡ serve_app = c.in_ok-command.ensures in
    let has : HasKind (fault_of (app_of c.in_ok-command.command) (map (λ x. x) c.args.words.now)) c.in-Err.error = c.in-Err.ensures.kinds (ap is_simple_and_free app ∙ serve_is_free) in
    let same : fault_of (app_of c.in_ok-command.command) (map (λ x. x) c.args.words.now) ≡ fault_of serve_app c.args.words.now =
    ap (λ (a : App). fault_of a (map (λ x. x) c.args.words.now)) app ∙ ap (fault_of serve_app) (map-same c.args.words.now) in
    by_fault c.fault_for.result (λ refuses. some_fails (fault_of serve_app c.args.words.now) c.in-Err.error (subst (λ (k : Kinds). HasKind k c.in-Err.error) same has) (sym c.fault_for.ensures ∙ refuses))
  where
    by_fault : (fault : WordsFault) → (fault ≡ Refused → is_taken c.args.words.now ≡ false) → Matches c.args.words.now (Err fault)
    by_fault Memory f = tt
    by_fault Refused f = f refl
