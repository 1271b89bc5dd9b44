use Rattle.clap.specs.declared.parser.matches.ArgMatches.TheViews.{out-ArgMatches}
use Rattle.midi_host.proofs.ServeParsing.{texts_are}
use Rattle.midi_host.proofs.serve_options.option_texts.Goals as goal

pub returns-in-Ok : goal.returns-in-Ok
returns-in-Ok c =
    texts_are c.args.words.now (out-ArgMatches c.in-Ok.matches).found _ _ _ _ c.in-Ok.ensures.0 c.in-Ok.ensures.1
    c.get_str.ensures c.get_str-in-Ok.ensures c.get_str-in-Ok-2.ensures c.get_str-in-Ok-3.ensures
