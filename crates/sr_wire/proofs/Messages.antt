-- The fields of each kind: what is spelled is read again, and what is read was spelled.
use Rattle.std.proofs.Common.{◌≡◌, ℕ, List, [], ◌∷◌, ◌++◌, refl, ap, ◌∙◌, subst}
use Rattle.std.specs.Prelude.{IsTrue, ◌&&◌}
use Rattle.std.proofs.lemmas.Bool.{and_from}
use Rattle.std.specs.Cmp.{first_so, second_so}
use Rattle.sr_cell.specs.Columns.{are_bytes}
use Rattle.sr_message.specs.declared.message.Message.{Message}
use Rattle.sr_message.specs.declared.message.Message.TheVariants.{Hello, Resume, Ask, Write, Welcome, Notice, Rows, Reply, Written, Refused, Lapse}
use Rattle.sr_bytes.specs.Reading.{Got, read_on}
use Rattle.sr_bytes.specs.Spelling.{is_from_to, have_rows_bytes}
use Rattle.sr_wire.specs.declared.kind.FrameKind.{FrameKind}
use Rattle.sr_wire.specs.declared.kind.FrameKind.TheVariants as kinds
use Rattle.sr_wire.specs.Spelling.{kind_of, fields_of, has_fields, is_long, is_client, is_wire}
use Rattle.sr_wire.specs.Reading.{fields_at, four, a_client, a_long, some_holdings}
use Rattle.sr_bytes.proofs.Steps.{behind}
use Rattle.sr_wire.proofs.Fields.{first_of_all, one_spelled, one_again, two_spelled, two_again, three_spelled, three_again, four_spelled, four_again}
use Rattle.sr_wire.proofs.Formats.{long, byte_in, flag, client, wire, statement, fault, rows, holdings, parts, told, has_statement_bytes, has_fault_bytes, have_holdings_bytes, have_parts_bytes, have_told_bytes}

-- what stands behind the wire of a Resume is read as that wire has it
behind_wire : (w : ℕ) (bytes : List ℕ) → IsTrue (is_wire w) → fields_at kinds.Resume (w ∷ bytes) ≡ four a_client a_long a_long (some_holdings w) (Resume w) bytes
behind_wire w bytes h = ap (λ r. read_on r (λ v. four a_client a_long a_long (some_holdings v) (Resume v))) (wire.exact.again w bytes h)

pub fields_again : (m : Message) (rest : List ℕ) → IsTrue (has_fields m) → fields_at (kind_of m) (fields_of m ++ rest) ≡ Got m rest
fields_again (Hello w c n) rest h =
    let more = second_so (is_wire w) (is_client c && is_long n) h in
    three_again wire client long Hello w c n rest (first_so (is_wire w) (is_client c && is_long n) h)
    (first_so (is_client c) (is_long n) more)
    (second_so (is_client c) (is_long n) more)
fields_again (Resume w c n v hs) rest h =
    let here = second_so (is_wire w) (is_client c && (is_long n && (is_long v && have_holdings_bytes w hs))) h in
    let one = second_so (is_client c) (is_long n && (is_long v && have_holdings_bytes w hs)) here in
    let two = second_so (is_long n) (is_long v && have_holdings_bytes w hs) one in
    behind_wire w _ (first_so (is_wire w) (is_client c && (is_long n && (is_long v && have_holdings_bytes w hs))) h)
    ∙ four_again client long long (holdings w) (Resume w) c n v hs rest
    (first_so (is_client c) (is_long n && (is_long v && have_holdings_bytes w hs)) here)
    (first_so (is_long n) (is_long v && have_holdings_bytes w hs) one)
    (first_so (is_long v) (have_holdings_bytes w hs) two)
    (second_so (is_long v) (have_holdings_bytes w hs) two)
fields_again (Ask n f ps) rest h =
    three_again long flag parts Ask n f ps rest (first_so (is_long n) (have_parts_bytes ps) h) refl (second_so (is_long n) (have_parts_bytes ps) h)
fields_again (Write n sql) rest h =
    two_again long statement Write n sql rest (first_so (is_long n) (has_statement_bytes sql) h) (second_so (is_long n) (has_statement_bytes sql) h)
fields_again (Welcome n v k) rest h =
    three_again long long flag Welcome n v k rest (first_so (is_long n) (is_long v) h) (second_so (is_long n) (is_long v) h) refl
fields_again (Notice v ts) rest h =
    two_again long told Notice v ts rest (first_so (is_long v) (have_told_bytes ts) h) (second_so (is_long v) (have_told_bytes ts) h)
fields_again (Rows n p rs) rest h =
    let more = second_so (is_long n) (is_from_to 0 3 p && have_rows_bytes rs) h in
    three_again long (byte_in 0 3) rows Rows n p rs rest
    (first_so (is_long n) (is_from_to 0 3 p && have_rows_bytes rs) h)
    (first_so (is_from_to 0 3 p) (have_rows_bytes rs) more)
    (second_so (is_from_to 0 3 p) (have_rows_bytes rs) more)
fields_again (Reply n v) rest h = two_again long long Reply n v rest (first_so (is_long n) (is_long v) h) (second_so (is_long n) (is_long v) h)
fields_again (Written n v) rest h = two_again long long Written n v rest (first_so (is_long n) (is_long v) h) (second_so (is_long n) (is_long v) h)
fields_again (Refused n f) rest h =
    two_again long fault Refused n f rest (first_so (is_long n) (has_fault_bytes f) h) (second_so (is_long n) (has_fault_bytes f) h)
fields_again (Lapse v) rest h = one_again long Lapse v rest h

-- fields that were read as those of a kind
pub record AreFields (kind : FrameKind) (bytes : List ℕ) (m : Message) (rest : List ℕ) : Type 0 where
  pub kind_is : kind_of m ≡ kind
  pub parts : bytes ≡ fields_of m ++ rest
  pub has : IsTrue (has_fields m)

pub fields_spelled : (kind : FrameKind) (bytes : List ℕ) (m : Message) (rest : List ℕ) → IsTrue (are_bytes bytes) → fields_at kind bytes ≡ Got m rest → AreFields kind bytes m rest
fields_spelled kinds.Hello bytes m rest fits e =
    let t = three_spelled wire client long Hello bytes m rest fits e in
    subst (λ v. AreFields kinds.Hello bytes v rest) t.is
    (record {
      kind_is = refl;
      parts = t.parts;
      has = and_from (is_wire t.first) (is_client t.second && is_long t.third) t.has_first (and_from (is_client t.second) (is_long t.third) t.has_second t.has_third);
    })
fields_spelled kinds.Resume bytes m rest fits e =
    let a = first_of_all wire (λ w. four a_client a_long a_long (some_holdings w) (Resume w)) bytes m rest fits e in
    let t = four_spelled client long long (holdings a.value) (Resume a.value) a.left m rest a.fits a.next in
    subst (λ v. AreFields kinds.Resume bytes v rest) t.is
    (record {
      kind_is = refl;
      parts = behind bytes (a.value ∷ []) (client.bytes_of t.first ++ (long.bytes_of t.second ++ (long.bytes_of t.third ++ (holdings a.value).bytes_of t.fourth))) a.left rest a.parts t.parts;
      has = and_from (is_wire a.value) (is_client t.first && (is_long t.second && (is_long t.third && have_holdings_bytes a.value t.fourth))) a.has
          (and_from (is_client t.first) (is_long t.second && (is_long t.third && have_holdings_bytes a.value t.fourth)) t.has_first
          (and_from (is_long t.second) (is_long t.third && have_holdings_bytes a.value t.fourth) t.has_second
          (and_from (is_long t.third) (have_holdings_bytes a.value t.fourth) t.has_third t.has_fourth)));
    })
fields_spelled kinds.Ask bytes m rest fits e =
    let t = three_spelled long flag parts Ask bytes m rest fits e in
    subst (λ v. AreFields kinds.Ask bytes v rest) t.is
    (record { kind_is = refl; parts = t.parts; has = and_from (is_long t.first) (have_parts_bytes t.third) t.has_first t.has_third })
fields_spelled kinds.Write bytes m rest fits e =
    let t = two_spelled long statement Write bytes m rest fits e in
    subst (λ v. AreFields kinds.Write bytes v rest) t.is
    (record { kind_is = refl; parts = t.parts; has = and_from (is_long t.first) (has_statement_bytes t.second) t.has_first t.has_second })
fields_spelled kinds.Welcome bytes m rest fits e =
    let t = three_spelled long long flag Welcome bytes m rest fits e in
    subst (λ v. AreFields kinds.Welcome bytes v rest) t.is
    (record { kind_is = refl; parts = t.parts; has = and_from (is_long t.first) (is_long t.second) t.has_first t.has_second })
fields_spelled kinds.Notice bytes m rest fits e =
    let t = two_spelled long told Notice bytes m rest fits e in
    subst (λ v. AreFields kinds.Notice bytes v rest) t.is
    (record { kind_is = refl; parts = t.parts; has = and_from (is_long t.first) (have_told_bytes t.second) t.has_first t.has_second })
fields_spelled kinds.Rows bytes m rest fits e =
    let t = three_spelled long (byte_in 0 3) rows Rows bytes m rest fits e in
    subst (λ v. AreFields kinds.Rows bytes v rest) t.is
    (record {
      kind_is = refl;
      parts = t.parts;
      has = and_from (is_long t.first) (is_from_to 0 3 t.second && have_rows_bytes t.third) t.has_first
          (and_from (is_from_to 0 3 t.second) (have_rows_bytes t.third) t.has_second t.has_third);
    })
fields_spelled kinds.Reply bytes m rest fits e =
    let t = two_spelled long long Reply bytes m rest fits e in
    subst (λ v. AreFields kinds.Reply bytes v rest) t.is
    (record { kind_is = refl; parts = t.parts; has = and_from (is_long t.first) (is_long t.second) t.has_first t.has_second })
fields_spelled kinds.Written bytes m rest fits e =
    let t = two_spelled long long Written bytes m rest fits e in
    subst (λ v. AreFields kinds.Written bytes v rest) t.is
    (record { kind_is = refl; parts = t.parts; has = and_from (is_long t.first) (is_long t.second) t.has_first t.has_second })
fields_spelled kinds.Refused bytes m rest fits e =
    let t = two_spelled long fault Refused bytes m rest fits e in
    subst (λ v. AreFields kinds.Refused bytes v rest) t.is
    (record { kind_is = refl; parts = t.parts; has = and_from (is_long t.first) (has_fault_bytes t.second) t.has_first t.has_second })
fields_spelled kinds.Lapse bytes m rest fits e =
    let t = one_spelled long Lapse bytes m rest fits e in
    subst (λ v. AreFields kinds.Lapse bytes v rest) t.is (record { kind_is = refl; parts = t.parts; has = t.has_first })
