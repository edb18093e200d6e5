-- What the status of `save` and `warm` says of the files that are held.
use Rattle.std.proofs.Common.{◌≡◌, ℕ, ◌⊎◌, List, Option, Some, None, Ok, Err, inl, inr, refl, sym, subst, ◌∙◌}
use Rattle.std.specs.Prelude.{IsErrOf}
use Rattle.sr_cell.specs.declared.table.Table.{Table}
use Rattle.sr_dial.specs.Following.{Ahead}
use Rattle.sr_dial.specs.declared.ending.Ending.{Ending}
use Rattle.sr_dial.specs.declared.ending.Ending.TheVariants.{Whole, Faulty, Limit as TooMany}
use Rattle.sr_image.specs.Reading.{image_in}
use Rattle.sr_image.specs.declared.image.Image.{Image}
use Rattle.sr_image.specs.declared.image.ImageFault.{ImageFault}
use Rattle.sr_io.specs.Told.{Reading, Writing, Linking}
use Rattle.sr_words.specs.declared.command.ClientKind.TheVariants as kind
use Rattle.sr_words.specs.declared.command.ClientWords.{ClientWords}
use Rattle.sr_words.specs.declared.command.WarmWords.{WarmWords}
use Rattle.sr_cli.specs.Client.{AreHeld, AreLong, DidRun, FitsFiles, IsEnd, NamedCreate, NamedLine}
use Rattle.sr_cli.specs.Files.{IsLong, SomeTooLong}
use Rattle.sr_cli.specs.Image.{AreWarmHeld, Asked, AskedOf, AskedOver, FitsImage, IsNoImage, SavesBy, Warms, WarmsBy, WarmsUnwritten, names_of}
use Rattle.sr_cli.specs.Kinds.{AsksLines, fault_by, line_fault}
use Rattle.sr_cli.specs.Leaves.{unread_of}
use Rattle.sr_cli.specs.declared.file.ReadFault.{ReadFault}
use Rattle.sr_cli.specs.declared.file.ReadFault.TheVariants as read
use Rattle.sr_cli.specs.declared.report.Refusal.TheVariants.{Read, Write}
use Rattle.sr_cli.specs.declared.stop.Stop.TheVariants.{Refused}
use Rattle.sr_cli.specs.declared.warm.WarmStop.TheVariants.{Stopped}
use Rattle.sr_cli.proofs.ClientFits.{Accepted, Lies, Named, RefusesSome, fits_held}
use Rattle.sr_cli.proofs.SameFiles.{same_bytes, too_long_held}

-- ---- `save`

module _ (held : List ℕ → Option (List ℕ)) (words : ClientWords) (plain : words.kind ≡ kind.Client) where
  accepted-of : {D : List Table → Ahead → Type 0} → Asked held words D → Named held words (Accepted (fault_by words))
  accepted-of {D} a = record {
    schema = a.schema;
    script = a.script;
    files = a.files;
    holds = subst (λ k. Accepted (line_fault k words.id) a.schema a.script) (sym plain) (record { inside = a.asks.asked.inside; accepts = λ line fault r. a.asks.asked.accepts line fault r.first });
  }

  lies-of : {old new : Option (List ℕ)} → NamedLine held words old new → Named held words (Lies (fault_by words))
  lies-of {old} {new} n = record { schema = n.refused.schema; script = n.refused.script; files = n.refused.files; holds = (record { line = n.line; place = n.place }, n.refused.first) }

  refuses-of : {old new : Option (List ℕ)} → NamedCreate held words old new → Named held words (RefusesSome (fault_by words))
  refuses-of {old} {new} n = record { schema = n.refused.schema; script = n.refused.script; files = n.refused.files; holds = (n.line, n.fault, n.refused.refuses) }

  module _ (Steady : Type 0) (to : Reading) (old new : Linking) (before after : Writing) (first last : Option (List ℕ)) (status : ℕ) (by : SavesBy Steady held words to old new before after first last status) where
    ran-of : DidRun status → Named held words (Accepted (fault_by words))
    ran-of (inl is) = accepted-of (by.whole is)
    ran-of (inr (inl is)) = accepted-of (by.unwritten is)
    ran-of (inr (inr (inl is))) = accepted-of (by.faulty is)
    ran-of (inr (inr (inr (inl is)))) = accepted-of (by.frame is).ended
    ran-of (inr (inr (inr (inr is)))) = accepted-of (by.limit is)

    pub fits-saved : IsEnd status → ¬ (status ≡ 3) → (schema script : List ℕ) → AreHeld held words schema script → FitsFiles (fault_by words) schema script status
    fits-saved only read schema script are = fits_held held to.left words schema script status are (record {
      only = only;
      no_read_fault = read;
      too_long = by.too_long;
      line = λ is. lies-of (by.line is);
      refused = λ is. refuses-of (by.refused is);
      ran = ran-of;
    })

-- ---- `warm`

module _ (held : List ℕ → Option (List ℕ)) (words : WarmWords) (schema script bytes : List ℕ) (are : AreWarmHeld held words schema script bytes) where
  long-of : (left : Option (List ℕ)) → SomeTooLong held left (names_of words) → AreLong schema script ⊎ IsLong bytes
  long-of left (inl long) = inl (inl (too_long_held (held words.client.schema) left schema are.files.schema_held long))
  long-of left (inr (read, what, inl long)) = inl (inr (too_long_held (held words.client.script) left script are.files.script_held long))
  long-of left (inr (read, what, inr (more, is, inl long))) = inr (too_long_held (held words.image) left bytes are.image_held long)
  long-of left (inr (read, what, inr (more, is, inr (other, which, long)))) = absurd long

  -- what was read is what is held
  of-held : (Q : List Table → List ℕ → Type 0) (D : List Table → Ahead → List ℕ → Type 0) → ((tables : List Table) (ahead : Ahead) (image : List ℕ) → D tables ahead image → Q tables image) → AskedOver held words D
      → AskedOf words.client.id schema script (λ tables. Q tables bytes)
  of-held Q D f a =
      let n = a.asked in
      let one : n.schema ≡ schema = same_bytes (held words.client.schema) schema n.schema are.files.schema_held n.files.schema_read in
      let two : n.script ≡ script = same_bytes (held words.client.script) script n.script are.files.script_held n.files.script_read in
      let three : a.image ≡ bytes = same_bytes (held words.image) bytes a.image are.image_held a.image_read in (
        n.tables,
        n.ahead,
        subst (λ (s : List ℕ). AsksLines words.client.id schema s n.tables n.ahead) two (subst (λ (s : List ℕ). AsksLines words.client.id s n.script n.tables n.ahead) one n.asks),
        subst (Q n.tables) three (f n.tables n.ahead a.image n.did),
      )

  abbrev IsImage : List Table → List ℕ → Type 0
  IsImage tables image = (i : Image) × (image_in tables image ≡ Ok i)

  abbrev IsNone : List Table → List ℕ → Type 0
  IsNone tables image = (fault : ImageFault) × (image_in tables image ≡ Err fault)

  module _ (Steady : Type 0) (to : Reading) (old new : Linking) (before after : Writing) (first last : Option (List ℕ)) (status : ℕ) (by : WarmsBy Steady held words to old new before after first last status) where
    abbrev Did : Ending → List Table → Ahead → List ℕ → Type 0
    Did e tables ahead image = Warms Steady words.client tables ahead image e old new before after

    from-warms : (e : Ending) (tables : List Table) (ahead : Ahead) (image : List ℕ) → Did e tables ahead image → IsImage tables image
    from-warms e tables ahead image w = (w.starts.image, w.starts.read)

    from-unwritten : (tables : List Table) (ahead : Ahead) (image : List ℕ) → WarmsUnwritten Steady words.client tables ahead image old new before after → IsImage tables image
    from-unwritten tables ahead image (inl w) = (w.starts.image, w.starts.read)
    from-unwritten tables ahead image (inr w) = (w.starts.image, w.starts.read)

    started : DidRun status → AskedOf words.client.id schema script (λ tables. IsImage tables bytes)
    started (inl is) = of-held IsImage (Did Whole) (from-warms Whole) (by.whole is)
    started (inr (inl is)) = of-held IsImage (λ t a b. WarmsUnwritten Steady words.client t a b old new before after) from-unwritten (by.unwritten is)
    started (inr (inr (inl is))) = of-held IsImage (Did Faulty) (from-warms Faulty) (by.faulty is)
    started (inr (inr (inr (inl is)))) = (let f = by.frame is in of-held IsImage (Did f.ending) (from-warms f.ending) f.ended)
    started (inr (inr (inr (inr is)))) = of-held IsImage (Did TooMany) (from-warms TooMany) (by.limit is)

    pub fits-warmed : ¬ (status ≡ 3) → (status ≡ 13 → (fault : ImageFault) × IsNoImage held words fault) → FitsImage words.client.id schema script bytes status
    fits-warmed read none = record {
      no_read_fault = read;
      too_long = λ is. long-of to.left (by.too_long is);
      no_image = λ is. (let n = none is in of-held IsNone (λ t a b. image_in t b ≡ Err n.0) (λ t a b e. (n.0, e)) n.1);
      an_image = started;
    }

-- reading an image failed
pub warm-failed : {T : Type 0} (cause : ReadFault) → IsErrOf {T = T} (Err (Stopped (Refused (unread_of cause)))) (Stopped (Refused Read)) → cause ≡ read.Fault
warm-failed {T} read.Fault is = refl
warm-failed {T} read.NoMemory is = absurd cc
warm-failed {T} read.TooLong is = absurd cc

pub never-held : (held : Option (List ℕ)) (bytes : List ℕ) → held ≡ None → held ≡ Some bytes → ⊥
never-held held bytes none some = let e : ◌≡◌ {A = Option (List ℕ)} None (Some bytes) = sym none ∙ some in cc

-- and no line was to be written
pub warm-unwritten : {T : Type 0} (cause : ReadFault) → IsErrOf {T = T} (Err (Stopped (Refused (unread_of cause)))) (Stopped (Refused Write)) → ⊥
warm-unwritten {T} read.Fault is = cc
warm-unwritten {T} read.NoMemory is = cc
warm-unwritten {T} read.TooLong is = cc
