-- What runs leave, by how they end.
use Rattle.std.proofs.Common.{◌≡◌, ℕ, ◌⊎◌, List, [], ◌∷◌, ◌++◌, Option, Ok, Err, inl, inr, refl, sym, ap, subst, arith, ◌∙◌}
use Rattle.std.specs.Prelude.{IfErr, IfSome, IsErrOf, Result}
use Rattle.sr_cell.specs.declared.fault.Fault.{Fault}
use Rattle.sr_io.specs.Causes.{Rose}
use Rattle.sr_io.specs.Told.{Reading, Writing, Linking, complained}
use Rattle.sr_cli.specs.Errors.{error_text, line_text, setup_text, load_text}
use Rattle.sr_cli.specs.Files.{IsWhatIsHeld, SomeTooLong}
use Rattle.sr_cli.specs.Leaves.{Counts, DidNothing, IsUndone, Leaves, Names, NotRead, OnlyComplains, OnlyRuns, Reported, unread_of}
use Rattle.sr_cli.proofs.Endings.{one_refusal}
use Rattle.sr_cli.specs.declared.file.ReadFault.{ReadFault}
use Rattle.sr_cli.specs.declared.file.ReadFault.TheVariants as read
use Rattle.sr_cli.specs.declared.report.Refusal.{Refusal}
use Rattle.sr_cli.specs.declared.report.Refusal.TheVariants.{Read, Write, Link, Memory, TooLong, Line, Setup, Load}

-- ---- files that are not read

-- some of them
front-long : (held : List ℕ → Option (List ℕ)) (left : Option (List ℕ)) (front back : List (List ℕ)) → SomeTooLong held left front → SomeTooLong held left (front ++ back)
front-long held left [] back long = absurd long
front-long held left (name ∷ front) back (inl long) = inl long
front-long held left (name ∷ front) back (inr (file, is, long)) = inr (file, is, front-long held left front back long)

pub front-not-read : (held : List ℕ → Option (List ℕ)) (front back : List (List ℕ)) (old new : Reading) (fault : ReadFault) → NotRead held front old new fault → NotRead held (front ++ back) old new fault
front-not-read held front back old new read.Fault why = why
front-not-read held front back old new read.NoMemory why = why
front-not-read held front back old new read.TooLong (long, same) = (front-long held new.left front back long, same)

-- the error is the one that is met
pub err-of : {T E : Type 0} (P : E → Type 0) (r : Result T E) (why : E) → IfErr r P → IsErrOf r why → P why
err-of {T} {E} P (Ok x) why holds is = absurd (cc)
err-of {T} {E} P (Err other) why holds is = (let same : other ≡ why = cc in subst P same holds)

-- one behind others
pub behind-not-read : (held : List ℕ → Option (List ℕ)) (name file : List ℕ) (names : List (List ℕ)) (first mid last : Reading) (fault : ReadFault) → IsWhatIsHeld (held name) file → mid.faults ≡ first.faults
    → NotRead held names mid last fault → NotRead held (name ∷ names) first last fault
behind-not-read held name file names first mid last read.Fault is same rose = subst (λ n. Rose n last.faults) same rose
behind-not-read held name file names first mid last read.NoMemory is same stay = stay ∙ same
behind-not-read held name file names first mid last read.TooLong is same (long, stay) = (inr (file, is, long), stay ∙ same)

-- what holds of each refusal of files that are not read
pub unread-as : (P : Refusal → Type 0) (cause : ReadFault) → (cause ≡ read.Fault → P Read) → (cause ≡ read.NoMemory → P Memory) → (cause ≡ read.TooLong → P TooLong) → P (unread_of cause)
unread-as P read.Fault one two three = one refl
unread-as P read.NoMemory one two three = two refl
unread-as P read.TooLong one two three = three refl

-- reading failed where that is said
pub read-failed : {T : Type 0} (cause : ReadFault) → IsErrOf {T = T} (Err (unread_of cause)) Read → cause ≡ read.Fault
read-failed {T} read.Fault is = refl
read-failed {T} read.NoMemory is = absurd cc
read-failed {T} read.TooLong is = absurd cc

-- neither writing nor the link failed
pub unread-never : {T : Type 0} (cause : ReadFault) (refusal : Refusal) → IsErrOf {T = T} (Err (unread_of cause)) refusal → (refusal ≡ Write) ⊎ (refusal ≡ Link) → ⊥
unread-never {T} read.Fault refusal is (inl write) = cc
unread-never {T} read.Fault refusal is (inr link) = cc
unread-never {T} read.NoMemory refusal is (inl write) = cc
unread-never {T} read.NoMemory refusal is (inr link) = cc
unread-never {T} read.TooLong refusal is (inl write) = cc
unread-never {T} read.TooLong refusal is (inr link) = cc

-- ---- what the error output says of a refusal

-- a line was named, with the place of its fault
abbrev pub NamesLine : Refusal → Option (List ℕ) → Option (List ℕ) → Type 0
NamesLine refusal old new = (line : ℕ) × (place : ℕ) × (refusal ≡ Line line place) × (new ≡ complained (line_text line place) old)

-- a CREATE line or a file was named, with its fault
abbrev pub NamesRefused : Refusal → Option (List ℕ) → Option (List ℕ) → Type 0
NamesRefused refusal old new =
    ((line : ℕ) × (fault : Fault) × (refusal ≡ Setup line fault) × (new ≡ complained (setup_text line fault) old))
    ⊎ ((table : List ℕ) × (fault : Fault) × (refusal ≡ Load table fault) × (new ≡ complained (load_text table fault) old))

-- something is refused that has a name
abbrev pub HasName : Refusal → Type 0
HasName refusal =
    ((line : ℕ) × (place : ℕ) × (refusal ≡ Line line place)) ⊎ ((line : ℕ) × (fault : Fault) × (refusal ≡ Setup line fault))
    ⊎ ((table : List ℕ) × (fault : Fault) × (refusal ≡ Load table fault))

-- there was no memory, or none to name what is refused
abbrev pub InWant : Refusal → Type 0
InWant refusal = (refusal ≡ Memory) ⊎ HasName refusal

-- what a status says of the refusal
pub record Report (refusal : Refusal) (status : ℕ) (old new : Option (List ℕ)) : Type 0 where
  pub only : (status ≡ 3) ⊎ (status ≡ 4) ⊎ (status ≡ 5) ⊎ (status ≡ 6) ⊎ (status ≡ 7) ⊎ (status ≡ 9) ⊎ (status ≡ 10)
  pub read : status ≡ 3 → refusal ≡ Read
  pub write : status ≡ 4 → refusal ≡ Write
  pub link : status ≡ 5 → refusal ≡ Link
  pub memory : status ≡ 9 → InWant refusal
  pub too_long : status ≡ 10 → refusal ≡ TooLong
  pub line : status ≡ 6 → NamesLine refusal old new
  pub refused : status ≡ 7 → NamesRefused refusal old new
  pub complaint : IfSome (error_text status) (λ text. new ≡ complained text old)

-- by the status that there is
said : (code status : ℕ) (old new : Option (List ℕ)) → status ≡ code → IfSome (error_text code) (λ text. new ≡ complained text old) → IfSome (error_text status) (λ text. new ≡ complained text old)
said code status old new is text = subst (λ n. IfSome (error_text n) (λ text. new ≡ complained text old)) (sym is) text

pub reported-is : (refusal : Refusal) (status : ℕ) (old new : Option (List ℕ)) → Reported refusal status old new → Report refusal status old new
reported-is Read status old new (is, text) = record {
  only = inl is;
  read = λ k. refl;
  write = λ k. absurd (omega (arith, is, k));
  link = λ k. absurd (omega (arith, is, k));
  memory = λ k. absurd (omega (arith, is, k));
  too_long = λ k. absurd (omega (arith, is, k));
  line = λ k. absurd (omega (arith, is, k));
  refused = λ k. absurd (omega (arith, is, k));
  complaint = said 3 status old new is text;
}
reported-is Write status old new (is, text) = record {
  only = inr (inl is);
  read = λ k. absurd (omega (arith, is, k));
  write = λ k. refl;
  link = λ k. absurd (omega (arith, is, k));
  memory = λ k. absurd (omega (arith, is, k));
  too_long = λ k. absurd (omega (arith, is, k));
  line = λ k. absurd (omega (arith, is, k));
  refused = λ k. absurd (omega (arith, is, k));
  complaint = said 4 status old new is text;
}
reported-is Link status old new (is, text) = record {
  only = inr (inr (inl is));
  read = λ k. absurd (omega (arith, is, k));
  write = λ k. absurd (omega (arith, is, k));
  link = λ k. refl;
  memory = λ k. absurd (omega (arith, is, k));
  too_long = λ k. absurd (omega (arith, is, k));
  line = λ k. absurd (omega (arith, is, k));
  refused = λ k. absurd (omega (arith, is, k));
  complaint = said 5 status old new is text;
}
reported-is Memory status old new (is, text) = record {
  only = inr (inr (inr (inr (inr (inl is)))));
  read = λ k. absurd (omega (arith, is, k));
  write = λ k. absurd (omega (arith, is, k));
  link = λ k. absurd (omega (arith, is, k));
  memory = λ k. inl refl;
  too_long = λ k. absurd (omega (arith, is, k));
  line = λ k. absurd (omega (arith, is, k));
  refused = λ k. absurd (omega (arith, is, k));
  complaint = said 9 status old new is text;
}
reported-is TooLong status old new (is, text) = record {
  only = inr (inr (inr (inr (inr (inr is)))));
  read = λ k. absurd (omega (arith, is, k));
  write = λ k. absurd (omega (arith, is, k));
  link = λ k. absurd (omega (arith, is, k));
  memory = λ k. absurd (omega (arith, is, k));
  too_long = λ k. refl;
  line = λ k. absurd (omega (arith, is, k));
  refused = λ k. absurd (omega (arith, is, k));
  complaint = said 10 status old new is text;
}
reported-is (Line line place) status old new (inl (is, named)) = record {
  only = inr (inr (inr (inl is)));
  read = λ k. absurd (omega (arith, is, k));
  write = λ k. absurd (omega (arith, is, k));
  link = λ k. absurd (omega (arith, is, k));
  memory = λ k. absurd (omega (arith, is, k));
  too_long = λ k. absurd (omega (arith, is, k));
  line = λ k. (line, place, refl, named);
  refused = λ k. absurd (omega (arith, is, k));
  complaint = said 6 status old new is tt;
}
reported-is (Line line place) status old new (inr (is, text)) = record {
  only = inr (inr (inr (inr (inr (inl is)))));
  read = λ k. absurd (omega (arith, is, k));
  write = λ k. absurd (omega (arith, is, k));
  link = λ k. absurd (omega (arith, is, k));
  memory = λ k. inr (inl (line, place, refl));
  too_long = λ k. absurd (omega (arith, is, k));
  line = λ k. absurd (omega (arith, is, k));
  refused = λ k. absurd (omega (arith, is, k));
  complaint = said 9 status old new is text;
}
reported-is (Setup line fault) status old new (inl (is, named)) = record {
  only = inr (inr (inr (inr (inl is))));
  read = λ k. absurd (omega (arith, is, k));
  write = λ k. absurd (omega (arith, is, k));
  link = λ k. absurd (omega (arith, is, k));
  memory = λ k. absurd (omega (arith, is, k));
  too_long = λ k. absurd (omega (arith, is, k));
  line = λ k. absurd (omega (arith, is, k));
  refused = λ k. inl (line, fault, refl, named);
  complaint = said 7 status old new is tt;
}
reported-is (Setup line fault) status old new (inr (is, text)) = record {
  only = inr (inr (inr (inr (inr (inl is)))));
  read = λ k. absurd (omega (arith, is, k));
  write = λ k. absurd (omega (arith, is, k));
  link = λ k. absurd (omega (arith, is, k));
  memory = λ k. inr (inr (inl (line, fault, refl)));
  too_long = λ k. absurd (omega (arith, is, k));
  line = λ k. absurd (omega (arith, is, k));
  refused = λ k. absurd (omega (arith, is, k));
  complaint = said 9 status old new is text;
}
reported-is (Load table fault) status old new (inl (is, named)) = record {
  only = inr (inr (inr (inr (inl is))));
  read = λ k. absurd (omega (arith, is, k));
  write = λ k. absurd (omega (arith, is, k));
  link = λ k. absurd (omega (arith, is, k));
  memory = λ k. absurd (omega (arith, is, k));
  too_long = λ k. absurd (omega (arith, is, k));
  line = λ k. absurd (omega (arith, is, k));
  refused = λ k. inr (table, fault, refl, named);
  complaint = said 7 status old new is tt;
}
reported-is (Load table fault) status old new (inr (is, text)) = record {
  only = inr (inr (inr (inr (inr (inl is)))));
  read = λ k. absurd (omega (arith, is, k));
  write = λ k. absurd (omega (arith, is, k));
  link = λ k. absurd (omega (arith, is, k));
  memory = λ k. inr (inr (inr (table, fault, refl)));
  too_long = λ k. absurd (omega (arith, is, k));
  line = λ k. absurd (omega (arith, is, k));
  refused = λ k. absurd (omega (arith, is, k));
  complaint = said 9 status old new is text;
}

-- what is said of bytes that are no frame
pub spoiled-status : (text : List ℕ) (status : ℕ) (old new : Option (List ℕ)) → Names 8 text status old new → ((status ≡ 8) ⊎ (status ≡ 9) ⊎ (status ≡ 11)) × IfSome (error_text status) (λ text. new ≡ complained text old)
spoiled-status text status old new (inl (is, named)) = (inl is, said 8 status old new is tt)
spoiled-status text status old new (inr (is, named)) = (inr (inl is), said 9 status old new is named)

-- writing failed just where that is said
module _ (refusal : Refusal) (status : ℕ) (old new : Option (List ℕ)) (reported : Reported refusal status old new) where
  write-status : refusal ≡ Write → status ≡ 4
  write-status is = (subst (λ r. Reported r status old new) is reported).0

  pub keeps-writing : {T : Type 0} (P : Type 0) → IsErrOf {T = T} (Err refusal) Write ⊎ P → (status ≡ 4) ⊎ P
  keeps-writing {T} P (inl is) = inl (write-status (one_refusal refusal Write is))
  keeps-writing {T} P (inr holds) = inr holds

pub done-keeps : {T : Type 0} (x : T) (P : Type 0) → IsErrOf (Ok x) Write ⊎ P → P
done-keeps {T} x P (inl is) = absurd (cc)
done-keeps {T} x P (inr holds) = holds

-- ---- a run

module _ (H : Type 0) (held : H → List ℕ → Option (List ℕ)) (reading : H → Reading) (writing : H → Writing) (linking : H → Linking) (complaints : H → Option (List ℕ)) (IsSteady : H → Type 0) where
  -- behind the reading of files
  pub counts-behind : (old mid new : H) (result : Result (Unit {0}) Refusal) → (reading mid).faults ≡ (reading old).faults → writing mid ≡ writing old → linking mid ≡ linking old
      → Counts H reading writing linking mid new result → Counts H reading writing linking old new result
  counts-behind old mid new (Ok done) faults write link stay = stay ∙ faults
  counts-behind old mid new (Err Read) faults write link (rose, none) = (subst (λ n. Rose n (reading new).faults) faults rose, record { writing_stays = none.writing_stays ∙ write; linking_stays = none.linking_stays ∙ link })
  counts-behind old mid new (Err Write) faults write link (rose, stay) = (subst (λ (w : Writing). Rose w.faults (writing new).faults) write rose, stay ∙ faults)
  counts-behind old mid new (Err Link) faults write link stay = stay ∙ faults
  counts-behind old mid new (Err Memory) faults write link stay = stay ∙ faults
  counts-behind old mid new (Err TooLong) faults write link (none, stay) = (record { writing_stays = none.writing_stays ∙ write; linking_stays = none.linking_stays ∙ link }, stay ∙ faults)
  counts-behind old mid new (Err (Line l p)) faults write link (none, stay) = (record { writing_stays = none.writing_stays ∙ write; linking_stays = none.linking_stays ∙ link }, stay ∙ faults)
  counts-behind old mid new (Err (Setup l f)) faults write link (none, stay) = (record { writing_stays = none.writing_stays ∙ write; linking_stays = none.linking_stays ∙ link }, stay ∙ faults)
  counts-behind old mid new (Err (Load t f)) faults write link (none, stay) = (record { writing_stays = none.writing_stays ∙ write; linking_stays = none.linking_stays ∙ link }, stay ∙ faults)

  -- where they are not read
  pub counts-unread : (names : List (List ℕ)) (before : List ℕ → Option (List ℕ)) (old new : H) (fault : ReadFault) → NotRead before names (reading old) (reading new) fault → writing new ≡ writing old → linking new ≡ linking old
      → Counts H reading writing linking old new (Err (unread_of fault))
  counts-unread names before old new read.Fault why write link = (why, record { writing_stays = write; linking_stays = link })
  counts-unread names before old new read.NoMemory why write link = why
  counts-unread names before old new read.TooLong (long, stay) write link = (record { writing_stays = write; linking_stays = link }, stay)

  -- nothing is refused
  pub leaves-done : (old new : H) → (reading new).faults ≡ (reading old).faults → OnlyRuns H held complaints IsSteady old new → Leaves H held reading writing linking complaints IsSteady old new 0
  leaves-done old new same stays = record {
    read_fault_is_counted = λ is. absurd (omega (arith, is));
    write_fault_is_counted = λ is. absurd (omega (arith, is));
    reading_keeps_faults = inr same;
    writes_nothing = λ is. absurd (omega (arith, is));
    links_nothing = λ is. absurd (omega (arith, is));
    silent = λ is. stays.complaints_stay;
    complaint = tt;
    stays_steady = stays.stays_steady;
    held_stays = stays.held_stays;
  }

  module _ (old mid new : H) (refusal : Refusal) (status : ℕ) (reported : Reported refusal status (complaints mid) (complaints new)) (counts : Counts H reading writing linking old mid (Err refusal)) where
    rep : Report refusal status (complaints mid) (complaints new)
    rep = reported-is refusal status (complaints mid) (complaints new) reported

    counts-as : (r : Refusal) → refusal ≡ r → Counts H reading writing linking old mid (Err r)
    counts-as r is = subst (λ r. Counts H reading writing linking old mid (Err r)) is counts

    -- what has a name did nothing, also where there is no memory for its text
    named-counts : HasName refusal → DidNothing H writing linking old mid × ((reading mid).faults ≡ (reading old).faults)
    named-counts (inl (line, place, named)) = counts-as (Line line place) named
    named-counts (inr (inl (line, fault, named))) = counts-as (Setup line fault) named
    named-counts (inr (inr (table, fault, named))) = counts-as (Load table fault) named

    pub named-nothing : HasName refusal → DidNothing H writing linking old mid
    named-nothing named = (named-counts named).0

    line-name : NamesLine refusal (complaints mid) (complaints new) → HasName refusal
    line-name (line, place, named, text) = inl (line, place, named)

    refused-name : NamesRefused refusal (complaints mid) (complaints new) → HasName refusal
    refused-name (inl (line, fault, named, text)) = inr (inl (line, fault, named))
    refused-name (inr (table, fault, named, text)) = inr (inr (table, fault, named))

    want-keeps : InWant refusal → (reading mid).faults ≡ (reading old).faults
    want-keeps (inl named) = counts-as Memory named
    want-keeps (inr named) = (named-counts named).1

    keeps : (status ≡ 3) ⊎ (status ≡ 4) ⊎ (status ≡ 5) ⊎ (status ≡ 6) ⊎ (status ≡ 7) ⊎ (status ≡ 9) ⊎ (status ≡ 10) → (status ≡ 3) ⊎ ((reading mid).faults ≡ (reading old).faults)
    keeps (inl is) = inl is
    keeps (inr (inl is)) = inr (counts-as Write (rep.write is)).1
    keeps (inr (inr (inl is))) = inr (counts-as Link (rep.link is))
    keeps (inr (inr (inr (inl is)))) = inr (named-counts (line-name (rep.line is))).1
    keeps (inr (inr (inr (inr (inl is))))) = inr (named-counts (refused-name (rep.refused is))).1
    keeps (inr (inr (inr (inr (inr (inl is)))))) = inr (want-keeps (rep.memory is))
    keeps (inr (inr (inr (inr (inr (inr is)))))) = inr (counts-as TooLong (rep.too_long is)).1

    nothing : IsUndone status → DidNothing H writing linking old mid
    nothing (inl is) = (let o = rep.only in absurd (omega (arith, o, is)))
    nothing (inr (inl is)) = (counts-as Read (rep.read is)).1
    nothing (inr (inr (inl is))) = named-nothing (line-name (rep.line is))
    nothing (inr (inr (inr (inl is)))) = named-nothing (refused-name (rep.refused is))
    nothing (inr (inr (inr (inr is)))) = (counts-as TooLong (rep.too_long is)).0

    pub leaves-refused : OnlyRuns H held complaints IsSteady old mid → OnlyComplains H reading writing linking held IsSteady mid new → Leaves H held reading writing linking complaints IsSteady old new status
    leaves-refused runs stays = record {
      read_fault_is_counted = λ is. subst (λ (r : Reading). Rose (reading old).faults r.faults) (sym stays.reading_stays) (counts-as Read (rep.read is)).0;
      write_fault_is_counted = λ is. subst (λ (w : Writing). Rose (writing old).faults w.faults) (sym stays.writing_stays) (counts-as Write (rep.write is)).0;
      reading_keeps_faults = subst (λ (r : Reading). (status ≡ 3) ⊎ (r.faults ≡ (reading old).faults)) (sym stays.reading_stays) (keeps rep.only);
      writes_nothing = λ is. stays.writing_stays ∙ (nothing is).writing_stays;
      links_nothing = λ is. stays.linking_stays ∙ (nothing is).linking_stays;
      silent = λ is. (let o = rep.only in absurd (omega (arith, o, is)));
      complaint = subst (λ told. IfSome (error_text status) (λ text. complaints new ≡ complained text told)) runs.complaints_stay rep.complaint;
      stays_steady = λ steady. stays.stays_steady (runs.stays_steady steady);
      held_stays = stays.held_stays ∙ runs.held_stays;
    }

  -- the words were not taken, or there was no memory to read them
  pub leaves-untaken : (old new : H) (status : ℕ) → (status ≡ 2) ⊎ (status ≡ 9) → IfSome (error_text status) (λ text. complaints new ≡ complained text (complaints old))
      → OnlyComplains H reading writing linking held IsSteady old new → Leaves H held reading writing linking complaints IsSteady old new status
  leaves-untaken old new status which text stays = record {
    read_fault_is_counted = λ is. absurd (omega (arith, which, is));
    write_fault_is_counted = λ is. absurd (omega (arith, which, is));
    reading_keeps_faults = inr (ap (λ (r : Reading). r.faults) stays.reading_stays);
    writes_nothing = λ is. stays.writing_stays;
    links_nothing = λ is. stays.linking_stays;
    silent = λ is. absurd (omega (arith, which, is));
    complaint = text;
    stays_steady = stays.stays_steady;
    held_stays = stays.held_stays;
  }

  -- frames ended it, or there was no memory to say so
  pub leaves-by-frames : (old mid new : H) (status : ℕ) → (status ≡ 8) ⊎ (status ≡ 9) ⊎ (status ≡ 11) → IfSome (error_text status) (λ text. complaints new ≡ complained text (complaints mid)) → (reading mid).faults ≡ (reading old).faults
      → OnlyRuns H held complaints IsSteady old mid → OnlyComplains H reading writing linking held IsSteady mid new → Leaves H held reading writing linking complaints IsSteady old new status
  leaves-by-frames old mid new status which text same runs stays = record {
    read_fault_is_counted = λ is. absurd (omega (arith, which, is));
    write_fault_is_counted = λ is. absurd (omega (arith, which, is));
    reading_keeps_faults = inr (ap (λ (r : Reading). r.faults) stays.reading_stays ∙ same);
    writes_nothing = λ is. absurd (omega (arith, which, is));
    links_nothing = λ is. absurd (omega (arith, which, is));
    silent = λ is. absurd (omega (arith, which, is));
    complaint = subst (λ told. IfSome (error_text status) (λ text. complaints new ≡ complained text told)) runs.complaints_stay text;
    stays_steady = λ steady. stays.stays_steady (runs.stays_steady steady);
    held_stays = stays.held_stays ∙ runs.held_stays;
  }
