-- For internal contracts: the places of the tables.
use Rattle.std.specs.Prelude.{ℕ, ◌+◌, ◌*◌, ◌≡◌}
use Rattle.index.specs.declared.Places.{Places}
use Rattle.layout.specs.declared.Layout.{Layout}

-- the places of the pair search from b on, with R words of keys before the starts
pub record Searched (R F C N K b : ℕ) (p : Places) : Type 0 where
  pub many_faces : p.faces ≡ F
  pub many_nodes : p.nodes ≡ N
  pub many_sets : p.words ≡ K
  pub many_cells : p.cell_count ≡ C
  pub bows_at : p.bows ≡ b
  pub cells_at : p.cells ≡ b + C
  pub starts_at : p.starts ≡ p.cells + F + R
  pub sets_at : p.sets ≡ p.starts + (F + 1)
  pub offsets_at : p.offsets ≡ p.sets + R
  pub index_at : p.index ≡ p.offsets + (N + 2)
  pub found_at : p.found ≡ p.index + R + (F + 1 + R + (N + R + 3) + R)

-- each region right behind the one before, for R ring words, F faces, C cells, N nodes, M words and K words of node sets
pub record Planned (R F C N M K : ℕ) (l : Layout) : Type 0 where
  pub many_total : l.total ≡ R
  pub many_faces : l.at.faces ≡ F
  pub many_cells : l.at.cell_count ≡ C
  pub many_nodes : l.at.nodes ≡ N
  pub many_words : l.words ≡ M
  pub many_sets : l.at.words ≡ K
  pub weld_at : l.weld ≡ 0
  pub rings_at : l.rings ≡ N
  pub rows_at : l.rows ≡ l.rings + R
  pub firsts_at : l.firsts ≡ l.rows + (F + 1)
  pub bows_at : l.at.bows ≡ l.firsts + (C + 1)
  pub cells_at : l.at.cells ≡ l.at.bows + C
  pub keys_at : l.keys ≡ l.at.cells + F
  pub starts_at : l.at.starts ≡ l.keys + R
  pub sets_at : l.at.sets ≡ l.at.starts + (F + 1)
  pub offsets_at : l.at.offsets ≡ l.at.sets + R
  pub index_at : l.at.index ≡ l.at.offsets + (N + 2)
  pub second_at : l.second ≡ l.at.index + R
  pub found_at : l.at.found ≡ l.second + (F + 1 + R + (N + R + 3) + R)
  pub marks_at : l.marks ≡ l.at.found + F
  pub others_at : l.others ≡ l.marks + C
  pub last_at : l.last ≡ l.others + C
  pub pairs_at : l.pairs ≡ l.last + N
  pub spare_at : l.spare ≡ l.pairs + 2 * M
