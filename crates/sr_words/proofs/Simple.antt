-- The commands are simple, and no word of theirs has a rule on another.
use Rattle.std.proofs.Common.{◌≡◌, true, ap}
use Rattle.clap.specs.Faults.{is_simple_and_free}
use Rattle.clap.specs.Simple.{app_of}
use Rattle.clap.specs.Walk.{Text}
use Rattle.clap.specs.declared.builder.command.Command.{Command}
use Rattle.sr_words.specs.Forms.{replay_form, client_form, warm_form, serve_form, explain_form, generate_form}

pub simple_replay : (c : Command) → app_of c ≡ replay_form → is_simple_and_free (app_of c) ≡ true
unfolding replay_form
simple_replay c is = ap is_simple_and_free is

pub simple_client : (c : Command) (name : Text) → app_of c ≡ client_form name → is_simple_and_free (app_of c) ≡ true
unfolding client_form
simple_client c name is = ap is_simple_and_free is

pub simple_warm : (c : Command) → app_of c ≡ warm_form → is_simple_and_free (app_of c) ≡ true
unfolding warm_form
simple_warm c is = ap is_simple_and_free is

pub simple_serve : (c : Command) → app_of c ≡ serve_form → is_simple_and_free (app_of c) ≡ true
unfolding serve_form
simple_serve c is = ap is_simple_and_free is

pub simple_explain : (c : Command) → app_of c ≡ explain_form → is_simple_and_free (app_of c) ≡ true
unfolding explain_form
simple_explain c is = ap is_simple_and_free is

pub simple_generate : (c : Command) → app_of c ≡ generate_form → is_simple_and_free (app_of c) ≡ true
unfolding generate_form
simple_generate c is = ap is_simple_and_free is
