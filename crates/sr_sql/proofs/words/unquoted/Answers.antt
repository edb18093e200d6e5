use Rattle.std.proofs.Common.{◌≡◌, [], ◌∷◌, ◌++◌, lit<, sym, ◌∙◌, ap, rules}
use Rattle.std.specs.Prelude.{string_bytes}
use Rattle.std.proofs.lemmas.Str.Pattern.{split_once_first, strip_prefix_char}
use Rattle.sr_sql.proofs.Quotes.{kept_begins, kept_on, kept_all, kept_none, after_less}
use Rattle.sr_sql.proofs.words.unquoted.Goals as goal

pub loop-before-init : goal.loop-before-init
loop-before-init c =
    let begins = strip_prefix_char 39 c.args.text.now c.strip_prefix.result c.strip_prefix.ensures.cases (lit< tt) in
    record { text = c.unwrap_or-rest.utf8; kept = rw c.new-inner.ensures.bytes (kept_begins c.strip_prefix.result c.args.text c.unwrap_or-rest.result c.requires begins c.unwrap_or-rest.ensures) }

pub loop-before-preserved : goal.loop-before-preserved
unfolding lib.Utf8.encode
loop-before-preserved c =
    let cut = rw c.in-Some.is at (split_once_first 39 c.loop-before.rest.now c.split_once.result c.split_once.ensures.cases (lit< tt)) in
    let next = rw c.in-Some-strip_prefix.is at (strip_prefix_char 39 c.in-Some.after.now c.strip_prefix-in-Some.result c.strip_prefix-in-Some.ensures.cases (lit< tt)) in
    let grown : string_bytes c.push.new.self ≡ (string_bytes c.loop-before.inner ++ c.in-Some.before.now) ++ 39 ∷ [] = c.in_ok-push-in-Some-strip_prefix.ensures.bytes ∙ ap (λ z. z ++ 39 ∷ []) c.in_ok-push_str.ensures.bytes in
    record {
      text = search rules;
      kept = rw grown (kept_on c.args.text.now (string_bytes c.loop-before.inner) c.loop-before.rest.now c.in-Some.before.now c.in-Some.after.now c.in-Some-strip_prefix.more.now c.loop-before.invariant.kept cut.0 cut.1 cut.2 next);
    }

pub loop-before-smaller : goal.loop-before-smaller
loop-before-smaller c =
    let cut = rw c.in-Some.is at (split_once_first 39 c.loop-before.rest.now c.split_once.result c.split_once.ensures.cases (lit< tt)) in
    let next = rw c.in-Some-strip_prefix.is at (strip_prefix_char 39 c.in-Some.after.now c.strip_prefix-in-Some.result c.strip_prefix-in-Some.ensures.cases (lit< tt)) in
    after_less c.loop-before.rest.now c.in-Some-strip_prefix.more.now (sym cut.2 ∙ next) cut.0

pub returns-in-None : goal.returns-in-None
returns-in-None c =
    let cut = rw c.in-Some.is at (split_once_first 39 c.loop-before.rest.now c.split_once.result c.split_once.ensures.cases (lit< tt)) in
    let next = rw c.in-None.is at (strip_prefix_char 39 c.in-Some.after.now c.strip_prefix-in-Some.result c.strip_prefix-in-Some.ensures.cases (lit< tt)) in
    c.in_ok-push_str.ensures.bytes ∙ kept_all c.args.text.now (string_bytes c.loop-before.inner) c.loop-before.rest.now c.in-Some.before.now c.in-Some.after.now c.loop-before.invariant.kept cut.0 cut.1 cut.2 next

pub returns : goal.returns
returns c =
    let cut = rw c.in_default.is at (split_once_first 39 c.loop-before.rest.now c.split_once.result c.split_once.ensures.cases (lit< tt)) in
    absurd (kept_none c.args.text.now (string_bytes c.loop-before.inner) c.loop-before.rest.now c.loop-before.invariant.kept cut)
