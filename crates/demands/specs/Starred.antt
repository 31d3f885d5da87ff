-- The order's starred cases, as one table: a network, a command line, the answer line that is printed, and the network with the rows that are left.
use Rattle.std.specs.Prelude.{ℕ, ◌≡◌, List, [], ◌∷◌, ◌++◌, map, ℤ, pos, negsuc, replicate}
use Prim.Native.Char.{code}
use Prim.Native.String.{String}
use Rattle.index.specs.Index.{END}
use Rattle.tables.specs.declared.row.Node.{Node}
use Rattle.tables.specs.declared.row.Edge.{Edge}
use Rattle.tables.specs.Net.{Net, net}
use Rattle.tables.specs.Rows.{vacant_node, vacant_edge}
use Rattle.tables.proofs.NetworkA.{empty, network_a}
use Rattle.legs.specs.Legs.{Tables3, tables3}
use Rattle.printing.specs.Bytes.{newline}
use Rattle.commands.specs.Commands.{Replied}
use Rattle.dispatch.specs.Step.{State, state}
use Rattle.obeying.specs.Line.{line_answer}
use Rattle.script.specs.Script.{text_of}

-- the bytes of a text
abbrev pub bytes : String → List ℕ
bytes String.[] = []
bytes (String.◌∷◌ c cs) = code c ∷ bytes cs

-- a node row: weight; links
abbrev pub node : (weight : ℤ) (outgoing incoming : ℕ) → Node
node weight outgoing incoming = record { weight = weight; outgoing = record { 0 = outgoing }; incoming = record { 0 = incoming } }

-- an edge row: weight; links; ends
abbrev pub edge : (weight outgoing incoming source target : ℕ) → Edge
edge weight outgoing incoming source target =
    record {
      weight = weight;
      outgoing = record { 0 = outgoing };
      incoming = record { 0 = incoming };
      source = record { 0 = source };
      target = record { 0 = target };
    }

-- the network with these rows, of which the first n and m are in use
abbrev pub pairs : {A : Type 0} → (A → ℕ) → (A → ℕ) → List A → List ℕ
pairs f g [] = []
pairs f g (x ∷ xs) = f x ∷ g x ∷ pairs f g xs

abbrev pub rows : List Node → List Edge → (n m : ℕ) → Net
rows nodes edges n m =
    net
    (map (λ a. a.weight) nodes)
    (pairs (λ a. a.outgoing.0) (λ a. a.incoming.0) nodes)
    (map (λ e. e.weight) edges)
    (pairs (λ e. e.outgoing.0) (λ e. e.incoming.0) edges)
    (pairs (λ e. e.source.0) (λ e. e.target.0) edges)
    n
    m

-- what X 0, X 3, D 0 and D 2 leave of network A
abbrev pub after_x0 : Net
after_x0 =
    rows
    (node (pos 5) 2 END ∷ node (negsuc 2) 0 0 ∷ node (pos 8) END 2 ∷ [])
    (edge 13 1 END 1 1 ∷ edge 11 END END 1 2 ∷ edge 12 END 1 0 2 ∷ vacant_edge ∷ [])
    3
    3

abbrev pub after_x3 : Net
after_x3 =
    rows
    (node (pos 5) 2 END ∷ node (negsuc 2) 1 0 ∷ node (pos 8) END 2 ∷ [])
    (edge 10 END END 0 1 ∷ edge 11 END END 1 2 ∷ edge 12 0 1 0 2 ∷ vacant_edge ∷ [])
    3
    3

abbrev pub after_d0 : Net
after_d0 =
    rows
    (node (pos 8) END 1 ∷ node (negsuc 2) 0 0 ∷ vacant_node ∷ [])
    (edge 13 1 END 1 1 ∷ edge 11 END END 1 0 ∷ vacant_edge ∷ vacant_edge ∷ [])
    2
    2

abbrev pub after_d2 : Net
after_d2 =
    rows
    (node (pos 5) 0 END ∷ node (negsuc 2) 1 1 ∷ vacant_node ∷ [])
    (edge 10 END END 0 1 ∷ edge 13 END 0 1 1 ∷ vacant_edge ∷ vacant_edge ∷ [])
    2
    2

-- a case: the network, the command, the answer, the network afterwards
pub record Case : Type 0 where
  pub network : Net
  pub command : String
  pub answer : String
  pub after : Net

abbrev pub case : Net → String → String → Net → Case
case network command answer after = record { network = network; command = command; answer = answer; after = after }

abbrev pub starred : List Case
starred =
    case network_a "W 0" "W 0 2 2 1" network_a
    ∷ case network_a "W 2" "W 0 2 0 1" network_a
    ∷ case network_a "F 2 1" "F 0 1" network_a
    ∷ case network_a "F 1 1" "F 0 3" network_a
    ∷ case network_a "F 0 0" "F 5" network_a
    ∷ case network_a "A 1" "A 0 10" network_a
    ∷ case network_a "X 3" "X 0 13 - 0" after_x3
    ∷ case network_a "X 4" "X 4" network_a
    ∷ case network_a "X 0" "X 0 10 3 2" after_x0
    ∷ case network_a "D 0" "D 0 5 2 2 12 10" after_d0
    ∷ case network_a "D 2" "D 0 8 1 2 12 11" after_d2
    ∷ case (empty 3 4) "W 0" "W 0 0" (empty 3 4)
    ∷ case (empty 3 4) "D 0" "D 3" (empty 3 4)
    ∷ []

-- the command obeyed, with output tables of four items
abbrev pub four_items : Tables3
four_items = tables3 (replicate 4 0) (replicate 4 0) (replicate 4 0)

abbrev pub obeyed : Case → Replied State
obeyed c = line_answer (bytes c.command) (state c.network four_items)

-- what it comes to by the definitions, and what the table says
abbrev pub outcome : Case → List ℕ × Net
outcome c = (text_of (obeyed c), (obeyed c).after.network)

abbrev pub expected : Case → List ℕ × Net
expected c = (bytes c.answer ++ (newline ∷ []), c.after)

-- every case comes out as the table says
abbrev pub CasesHold : Type 0
CasesHold = map outcome starred ≡ map expected starred
