use Rattle.std.proofs.Common.{rules, codes, ap₂, ◌∙◌, ◌≡◌}
use Rattle.clap.specs.Words.{rule_of, app_of, with_rule}
use Rattle.midi_host.specs.ServeOptions.{needed, with_value, serve_app}
use Rattle.midi_host.proofs.serve_options.serve_command.Goals as goal

pub returns : goal.returns
unfolding serve_app
returns c =
    let port : rule_of c.needed.result ≡ needed (codes "port") = search rules in
    let turns : rule_of c.needed-2.result ≡ needed (codes "turns") = search rules in
    let ssrc : rule_of c.with_value.result ≡ with_value (codes "ssrc") (codes "4d494449") = search rules in
    let events : rule_of c.with_value-2.result ≡ with_value (codes "events") (codes "4194304") = search rules in
    c.in_ok-command.ensures.shape c.with_value-2.ensures.own
    ∙ ap₂ with_rule (c.in_ok-arg-3.ensures.shape c.with_value.ensures.own
    ∙ ap₂ with_rule (c.in_ok-arg-2.ensures.shape c.needed-2.ensures.own
    ∙ ap₂ with_rule (c.in_ok-arg.ensures.shape c.needed.ensures.own ∙ ap₂ with_rule c.new.ensures.app port) turns) ssrc) events
