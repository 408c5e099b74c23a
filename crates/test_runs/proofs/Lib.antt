pub mod SaidAlone
