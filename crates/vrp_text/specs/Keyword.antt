-- The keywords of a CVRP file (TSPLIB 95, sections 1.1 and 1.2).
use Rattle.std.specs.Prelude.{ℕ, Option, List, [], ◌∷◌, codes}
use Rattle.std.specs.Map.{lookup}
use Rattle.std.specs.Str.{bytes_eq}
use Rattle.vrp_text.specs.declared.lexer.key.Key.{Key}
use Rattle.vrp_text.specs.declared.lexer.key.Key.TheVariants as key
use Rattle.vrp_text.specs.declared.lexer.keyword.Keyword.{Keyword}
use Rattle.vrp_text.specs.declared.lexer.keyword.Keyword.TheVariants as keyword

abbrev pub keywords : List (List ℕ × Keyword)
keywords =
    (codes "TYPE", keyword.Key key.Problem)
    ∷ (codes "DIMENSION", keyword.Key key.Dimension)
    ∷ (codes "CAPACITY", keyword.Key key.Capacity)
    ∷ (codes "EDGE_WEIGHT_TYPE", keyword.Key key.WeightKind)
    ∷ (codes "EDGE_WEIGHT_FORMAT", keyword.Key key.WeightFormat)
    ∷ (codes "NODE_COORD_SECTION", keyword.Key key.NodeCoord)
    ∷ (codes "EDGE_WEIGHT_SECTION", keyword.Key key.EdgeWeight)
    ∷ (codes "DEMAND_SECTION", keyword.Key key.Demand)
    ∷ (codes "DEPOT_SECTION", keyword.Key key.Depot)
    ∷ (codes "NAME", keyword.Remark)
    ∷ (codes "COMMENT", keyword.Remark)
    ∷ (codes "NODE_COORD_TYPE", keyword.Remark)
    ∷ (codes "DISPLAY_DATA_TYPE", keyword.Remark)
    ∷ (codes "DISPLAY_DATA_SECTION", keyword.Display)
    ∷ (codes "EDGE_DATA_FORMAT", keyword.Unsupported)
    ∷ (codes "EDGE_DATA_SECTION", keyword.Unsupported)
    ∷ (codes "FIXED_EDGES_SECTION", keyword.Unsupported)
    ∷ (codes "TOUR_SECTION", keyword.Unsupported)
    ∷ (codes "EOF", keyword.End)
    ∷ []

-- the meaning of a keyword, if the text is one
abbrev pub keyword_of : List ℕ → Option Keyword
keyword_of text = lookup (bytes_eq text) keywords

-- the order of the keys
abbrev pub rank : Key → ℕ
rank key.Problem = 0
rank key.Dimension = 1
rank key.Capacity = 2
rank key.WeightKind = 3
rank key.WeightFormat = 4
rank key.NodeCoord = 5
rank key.EdgeWeight = 6
rank key.Demand = 7
rank key.Depot = 8

-- how a file writes a key
abbrev pub key_text : Key → List ℕ
key_text key.Problem = codes "TYPE"
key_text key.Dimension = codes "DIMENSION"
key_text key.Capacity = codes "CAPACITY"
key_text key.WeightKind = codes "EDGE_WEIGHT_TYPE"
key_text key.WeightFormat = codes "EDGE_WEIGHT_FORMAT"
key_text key.NodeCoord = codes "NODE_COORD_SECTION"
key_text key.EdgeWeight = codes "EDGE_WEIGHT_SECTION"
key_text key.Demand = codes "DEMAND_SECTION"
key_text key.Depot = codes "DEPOT_SECTION"
