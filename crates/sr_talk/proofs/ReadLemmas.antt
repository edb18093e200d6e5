-- Reading up to a frame.
use Rattle.std.proofs.Common.{◌≡◌, ℕ, ◌+◌, ◌≤◌, List, [], ◌++◌, length, Option, arith, append_assoc, sym, ◌∙◌, ap, subst, length-append, option_map}
use Rattle.sr_feed.specs.Fetching.{FetchesMore}
use Rattle.sr_io.specs.Told.{Reading, Writing, Linking, takes, taken_from, Brings}
use Rattle.sr_talk.specs.Moves.{OnlyLinks}
use Rattle.sr_talk.specs.Reading.{Reads, Pops}
use Rattle.sr_talk.specs.declared.frames.Popped.TheVariants.{Nothing}
use Rattle.sr_talk.proofs.MoveLemmas.{taken_from-more, brings-more, stays-on}
use Rattle.sr_talk.proofs.ShortLemmas.{short-small}

pub record ReadSoFar (L : Type 0) (reading : L → Reading) (writing : L → Writing) (linking : L → Linking) (held : L → List ℕ → Option (List ℕ)) (complaints : L → Option (List ℕ)) (IsSteady : L → Type 0) (first now : L) (fed feed : List ℕ) (index : ℕ) : Type 0 where
  pub reads : Reads (linking first) (linking now) fed [] feed
  pub grown : index ≤ length feed
  pub few : index ≤ 134217732
  pub stays : OnlyLinks L reading writing linking held complaints IsSteady first now
  pub up : (linking now).is_up ≡ (linking first).is_up

pub reads-more : (old now new : Linking) (before between after bytes : List ℕ) → Reads old now before [] between → Brings now.present bytes → new ≡ taken_from bytes now → after ≡ between ++ bytes → Reads old new before [] after
reads-more old now new before between after bytes r brings is grows =
    let b : Brings (option_map (takes r.bytes) old.present) bytes = subst (λ (l : Linking). Brings l.present bytes) r.is brings in
    record {
      bytes = r.bytes ++ bytes;
      brings = brings-more old.present r.bytes bytes r.brings b;
      is = is ∙ (ap (taken_from bytes) r.is ∙ taken_from-more old r.bytes bytes);
      cut = sym (append_assoc before r.bytes bytes) ∙ (ap (λ x. x ++ bytes) r.cut ∙ sym grows);
    }

module _ (L : Type 0) (reading : L → Reading) (writing : L → Writing) (linking : L → Linking) (held : L → List ℕ → Option (List ℕ)) (complaints : L → Option (List ℕ)) (IsSteady : L → Type 0) where
  -- one turn
  pub turn : (first now new : L) (fed feed next after : List ℕ) (count index : ℕ) → ReadSoFar L reading writing linking held complaints IsSteady first now fed feed index
      → Pops Nothing feed next → FetchesMore count (linking now) (linking new) next after → OnlyLinks L reading writing linking held complaints IsSteady now new → (linking new).is_up ≡ (linking now).is_up
      → ReadSoFar L reading writing linking held complaints IsSteady first new fed after (index + 1)
  turn first now new fed feed next after count index h (short, same) f stays up =
      let e : after ≡ feed ++ f.bytes = f.fed ∙ ap (λ x. x ++ f.bytes) same in
      let grown = h.grown in
      let small = short-small feed short in
      let some = f.some in
      let size = f.size in
      record {
        reads = reads-more (linking first) (linking now) (linking new) fed feed after f.bytes h.reads f.brought f.taken e;
        grown = omega (arith, grown, some, size, ap (λ x. length x) e, length-append feed f.bytes);
        few = omega (arith, grown, small);
        stays = stays-on L reading writing linking held complaints IsSteady first now new h.stays stays;
        up = up ∙ h.up;
      }
