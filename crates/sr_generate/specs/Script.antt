-- The script that is made from a number.
use Rattle.std.specs.Prelude.{ℕ, zero, suc, ◌+◌, ◌*◌, ◌/◌, ◌%◌, ◌^◌, ◌==◌, nat_lt, List, [], ◌∷◌, ◌++◌, codes, decimal, if◌then◌else◌}

-- ---- draws

-- the state behind a draw
unfoldable pub after : ℕ → ℕ
after state = (state * 6364136223846793005 + 1442695040888963407) % 2 ^ 64

-- what a draw gives, of so many numbers from 0 on, by the state behind it: its high bits decide
abbrev pub drawn : ℕ → ℕ → ℕ
drawn many state = state / 2 ^ 33 % many

-- ---- lines

-- a line, and the state behind its draws
pub record Made : Type 0 where
  pub line : List ℕ
  pub state : ℕ

abbrev pub line_feed : List ℕ
line_feed = 10 ∷ []

abbrev pub create_line : List ℕ
create_line =
    codes "CREATE TABLE t (k INT PRIMARY KEY CHECK (k BETWEEN 0 AND 999), a INT CHECK (a BETWEEN 0 AND 999), b INT CHECK (b BETWEEN 0 AND 99))"
    ++ line_feed

abbrev pub insert_line : ℕ → ℕ → ℕ → List ℕ
insert_line k a b = codes "exec INSERT INTO t VALUES (" ++ (decimal k ++ (codes ", " ++ (decimal a ++ (codes ", " ++ (decimal b ++ (codes ")" ++ line_feed))))))

-- the row with the key k
abbrev pub insert : ℕ → ℕ → Made
insert k state =
    let a = after state in
    let b = after a in
    record { line = insert_line k (drawn 1000 a) (drawn 100 b); state = b }

abbrev pub range_line : ℕ → ℕ → List ℕ
range_line low high = codes "query 1 SELECT k, a FROM t WHERE a BETWEEN " ++ (decimal low ++ (codes " AND " ++ (decimal high ++ line_feed)))

-- a query of a range
abbrev pub range_query : ℕ → Made
range_query state =
    let low = after state in
    let wide = after low in
    record { line = range_line (drawn 900 low) (drawn 900 low + drawn 100 wide); state = wide }

abbrev pub point_line : ℕ → ℕ → List ℕ
point_line value below = codes "query 1 SELECT k FROM t WHERE b = " ++ (decimal value ++ (codes " AND a < " ++ (decimal below ++ line_feed)))

-- a query of one value, below another
abbrev pub point_query : ℕ → Made
point_query state =
    let value = after state in
    let below = after value in
    record { line = point_line (drawn 100 value) (drawn 1000 below); state = below }

abbrev pub update_line : ℕ → ℕ → List ℕ
update_line a k = codes "exec UPDATE t SET a = " ++ (decimal a ++ (codes " WHERE k = " ++ (decimal k ++ line_feed)))

-- a change of one row
abbrev pub update : ℕ → Made
update state =
    let a = after state in
    let k = after a in
    record { line = update_line (drawn 1000 a) (drawn 200 k); state = k }

abbrev pub push_line : List ℕ
push_line = codes "push 1" ++ line_feed

abbrev pub push : ℕ → Made
push state = record { line = push_line; state = state }

-- an event of one of ten kinds, of which six are a query of a range and two are a change
abbrev pub of_kind : ℕ → ℕ → Made
of_kind kind state =
    if nat_lt kind 6 then range_query state
    else (if kind == 6 then point_query state
    else (if nat_lt kind 9 then update state
    else push state))

abbrev pub event : ℕ → Made
event state = of_kind (drawn 10 (after state)) (after state)

-- ---- the script

-- the line of this number behind the first: 200 rows, and then events
abbrev pub line_at : ℕ → ℕ → Made
line_at number state = if nat_lt number 200 then insert number state else event state

-- so many lines, from this number on
unfoldable pub lines_from : ℕ → ℕ → ℕ → List ℕ
lines_from zero number state = []
lines_from (suc lines) number state = (line_at number state).line ++ lines_from lines (number + 1) (line_at number state).state

-- a table, 200 rows, and so many events, from the state that is the seed
abbrev pub script : ℕ → ℕ → List ℕ
script seed events = create_line ++ lines_from (200 + events) 0 seed
